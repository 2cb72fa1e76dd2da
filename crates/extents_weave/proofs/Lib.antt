pub mod Lasting
pub mod Stepping
pub mod Turning
pub mod Sources
pub mod Homes
pub mod Walking
pub mod Weaving
pub mod Pairs
