pub mod Entering
pub mod Doubles
pub mod Lent
pub mod Sizes
