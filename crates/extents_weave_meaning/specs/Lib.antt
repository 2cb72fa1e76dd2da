pub mod Walks
pub mod Kept
