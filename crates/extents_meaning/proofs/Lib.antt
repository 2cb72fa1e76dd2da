pub mod Longest
pub mod Points
pub mod Overwrites
pub mod Trips
pub mod Threes
pub mod Rules
pub mod Sides
pub mod Changes
