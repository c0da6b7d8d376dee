pub mod Bins
pub mod Tests
