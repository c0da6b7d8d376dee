-- What the frame's calls work out row by row, in the words of crate `frame`. First what a reader must believe: nothing.
-- Then what follows from it: what the functions ask inside, the tests of a frame as the code makes them, and the laws of rows.
pub mod Inner
pub mod Tests
pub mod LegalLaws
pub mod RowsLaws
pub mod CleanLaws
pub mod TestsLaws
pub mod TwoPartsLaws
