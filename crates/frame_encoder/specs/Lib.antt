-- `encode_body`: document 01, "The frame body". First what a reader must believe.
pub mod Codes
pub mod Encode
-- Then what follows from it: what the functions of this crate ask of each other, the laws, and demands 1 and 2.
pub mod Made
pub mod CodesLaws
pub mod CodesLegal
pub mod EncodeLaws
pub mod Theorems
