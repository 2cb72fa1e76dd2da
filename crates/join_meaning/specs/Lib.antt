pub mod Files
pub mod Joining
pub mod Merging
