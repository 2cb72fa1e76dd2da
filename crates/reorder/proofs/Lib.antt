pub mod Edges
pub mod Between
pub mod Moving
