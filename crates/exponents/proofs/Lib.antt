-- What the proofs of this crate's functions share, by what they are about.
pub mod Filling
pub mod Coding
pub mod Placing
pub mod Turns
pub mod Answers
