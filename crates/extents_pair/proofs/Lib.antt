pub mod Sweeps
pub mod Parts
pub mod Spots
pub mod Gathering
pub mod Pairing
pub mod Bounds
pub mod Rooms
