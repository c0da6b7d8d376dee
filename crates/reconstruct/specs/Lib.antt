-- The listening copy: document 02, W3. First what a reader must believe.
pub mod Value
pub mod Bin
pub mod Copy
-- Then what follows from it: what the inner functions take and give, the laws, and the theorems.
pub mod Inner
pub mod QuotientLaws
pub mod ValueLaws
pub mod BinLaws
pub mod CopyLaws
pub mod Theorems
pub mod Cases
