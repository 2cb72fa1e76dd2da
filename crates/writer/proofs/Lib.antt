pub mod Questions
pub mod Formed
pub mod Lines
pub mod Passing
pub mod Sizes
pub mod Whole
pub mod Quotes
pub mod Round
