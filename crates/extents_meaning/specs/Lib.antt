pub mod Cells
pub mod Runs
pub mod Maps
pub mod Points
pub mod Pairs
pub mod Lookups
