pub mod Digits
pub mod Contents
pub mod Putting
