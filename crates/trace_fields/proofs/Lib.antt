pub mod Words
pub mod Judging
