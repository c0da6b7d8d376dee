-- Theorems on definitions of specs/.
pub mod AsymmetricLaws
pub mod PatternLaws
