pub mod Moves
pub mod Ranges
