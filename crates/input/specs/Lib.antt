-- What the program reads and answers: document 01, "The frame body". First what a reader must believe.
pub mod Input
pub mod Program
-- Then what follows from it: the laws.
pub mod ProgramLaws
