pub mod Rows
pub mod Questions
pub mod Reads
