pub mod Turns
pub mod Steps
pub mod Rewrites
