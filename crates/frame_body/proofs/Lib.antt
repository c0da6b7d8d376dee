pub mod Counting
pub mod Sets
pub mod Below
pub mod Blocks
