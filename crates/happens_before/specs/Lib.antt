pub mod Order
pub mod Clock
pub mod Tables
pub mod Filling
pub mod Sentences
