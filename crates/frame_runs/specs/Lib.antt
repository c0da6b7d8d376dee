-- The exponents of a frame's coefficients: document 01, "The frame body". First what a reader must believe.
pub mod Runs
pub mod Finite
-- Then what follows from it: the exponents as the code carries them from block to block, and the laws.
pub mod Inner
pub mod Carried
pub mod FiniteLaws
pub mod RunsLaws
pub mod LengthsLaws
pub mod FillingLaws
pub mod FramedLaws
pub mod CarriedLaws
pub mod RunsLegal
pub mod NotAboveLaws
