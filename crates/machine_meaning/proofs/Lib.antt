pub mod Points
pub mod Slices
pub mod Lawful
pub mod Stepping
pub mod Making
pub mod Tables
