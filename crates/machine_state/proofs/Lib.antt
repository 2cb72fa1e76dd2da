pub mod Maps
pub mod Questions
pub mod Answering
pub mod LawfulBytes
pub mod Keeping
pub mod Replaying
