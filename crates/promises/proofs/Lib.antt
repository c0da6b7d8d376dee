-- The demands that rest on the reader's answer, and what they share.
pub mod ReadingLaws
pub mod Demand2
pub mod Demand3
pub mod Count
pub mod Listening
