pub mod Undoubling
pub mod Fields
pub mod Contents
