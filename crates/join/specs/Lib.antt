pub mod Choosing
pub mod Answers
pub mod Taking
pub mod Sharing
pub mod Leaving
