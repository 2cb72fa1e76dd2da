pub mod Verdicts
pub mod Sizes
