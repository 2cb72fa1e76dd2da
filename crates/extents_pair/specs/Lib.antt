pub mod Marks
pub mod InPairs
