-- The code of a coefficient: document 01, "Mantissas"; A/52 7.3. First what a reader must believe.
pub mod Scale
pub mod Asymmetric
pub mod Symmetric
pub mod Code
-- Then what follows from it: what the inner functions ask, the laws, and the cases.
pub mod Inner
pub mod ScaleLaws
pub mod SymmetricLaws
pub mod CodeLaws
pub mod FloatLaws
pub mod OrderLaws
pub mod Cases
