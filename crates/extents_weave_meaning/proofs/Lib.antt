pub mod Starts
pub mod Rests
pub mod Walks
pub mod Kept
pub mod InPlace
pub mod Weave
