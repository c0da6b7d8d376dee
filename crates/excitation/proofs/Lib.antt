pub mod Joining
pub mod Exciting
