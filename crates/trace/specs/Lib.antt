pub mod Rows
pub mod Questions
pub mod Reads
pub mod Reader
pub mod Asked
