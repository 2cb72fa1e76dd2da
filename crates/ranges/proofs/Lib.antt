pub mod Differences
pub mod Overlaps
