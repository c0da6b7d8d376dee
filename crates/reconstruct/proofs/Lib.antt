-- Theorems on definitions of specs/.
pub mod AnswersLaws
pub mod Zeros
