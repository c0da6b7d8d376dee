-- The exponent set on bits: document 01, "Exponents"; A/52 7.1.3. First what a reader must believe.
pub mod Groups
pub mod Reading
pub mod Calls
-- Then what follows from it: what the inner functions take and give, and the laws of what is coded, of reading it back and of the calls.
pub mod Inner
pub mod ShapedLaws
pub mod GroupsLaws
pub mod ReadingLaws
pub mod ReadersLaws
pub mod ReadShaped
pub mod CallsLaws
