-- The tables of A/52 7.2.3 and 7.3. First what a reader must believe.
pub mod Entry
pub mod Parameters
pub mod Bands
pub mod Masking
pub mod Quantizer
-- Then what follows from it: rules that are computed over whole tables, and the laws of entries and levels.
pub mod EntryLaws
pub mod Computed
pub mod Levels
