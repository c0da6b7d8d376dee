pub mod ByBand
pub mod Filling
pub mod Allocating
