pub mod Reordered
pub mod Renaming
