pub mod Questions
pub mod Table
