pub mod Races
pub mod TableChain
pub mod Search
pub mod Scan
pub mod Lists
