-- The allocation of one channel: A/52 7.2.2.1, 7.2.2.7; document 01, "Allocation". First what a reader must believe.
pub mod Initialization
pub mod Bap
pub mod Allocation
-- Then what follows from it: what the tests say as bounds, the code's form, and the laws.
pub mod Legal
pub mod Held
pub mod HeldLaws
pub mod AllocationLaws
pub mod AnswerLaws
