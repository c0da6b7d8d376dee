-- Mantissa codes on bits: document 01, "Mantissas"; A/52 7.3.5. First what a reader must believe.
pub mod Ranges
pub mod Digits
pub mod State
pub mod Stream
pub mod Calls
pub mod Blocks
pub mod Formula
-- Then what follows from it: what the inner functions take and give, the tally that the code counts with, the laws, and the cases.
pub mod Inner
pub mod Pending
pub mod Tally
pub mod RangesLaws
pub mod DigitsLaws
pub mod StateLaws
pub mod CodedLaws
pub mod ReadersLaws
pub mod ReadBack
pub mod InRange
pub mod Count
pub mod TallyLaws
pub mod BapZero
pub mod Cases
