-- The masking curve and the deltas: A/52 7.2.2.5 and 7.2.2.6. First what a reader must believe.
pub mod Threshold
pub mod Delta
-- Then what follows from it: the code's form, its laws, and the starred cases.
pub mod Held
pub mod HeldLaws
pub mod Cases
