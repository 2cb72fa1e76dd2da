pub mod Bytes
pub mod Runs
pub mod Places
pub mod MoreBytes
pub mod Steps
pub mod ScannedFields
