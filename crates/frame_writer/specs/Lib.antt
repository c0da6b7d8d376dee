-- `write_body`, whose contract is in the words of crate `frame`. First what a reader must believe: nothing.
-- Then what follows from it: what its functions are handed, the laws, and demand 1.
pub mod Sized
pub mod AnswersLaws
pub mod Theorems
