pub mod Clearing
pub mod Viewing
pub mod Copying
