pub mod OnePart
pub mod SetsTurns
pub mod OneBlock
pub mod SixBlocks
pub mod Answers
