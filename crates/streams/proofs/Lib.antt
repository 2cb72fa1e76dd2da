pub mod Moving
pub mod Outcomes
