pub mod Cells
pub mod Putting
pub mod Passes
pub mod Whole
pub mod Held
