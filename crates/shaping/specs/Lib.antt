-- Exponents of coefficients, shaped for a strategy: document 01, "Exponents"; document 02, W4; A/52 7.1. First what a reader must believe.
pub mod Pattern
pub mod Extract
pub mod Shaped
pub mod D15
pub mod Spans
pub mod Passes
pub mod Groups
pub mod Strategies
-- Then what follows from it: the greatest that is shaped, the code's forms of D15, the Rust's passes over spans, what the inner functions ask, the
-- laws, and the starred cases.
pub mod Greatest
pub mod Reach
pub mod RustSpans
pub mod Inner
pub mod FloatLaws
pub mod ExtractLaws
pub mod GreatestLaws
pub mod PassLaws
pub mod SpanLaws
pub mod GroupsLaws
pub mod StrategyLaws
pub mod Cases
