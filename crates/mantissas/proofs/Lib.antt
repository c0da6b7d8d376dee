pub mod Answers
pub mod Arrays
pub mod Joining
pub mod Checking
pub mod GroupReading
pub mod Grouping
pub mod Reading
pub mod Values
pub mod Weighing
pub mod Writing
-- Theorems on definitions of specs/.
pub mod BlocksLaws
