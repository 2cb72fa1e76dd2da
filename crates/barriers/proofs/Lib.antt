pub mod Arrivals
pub mod Telling
pub mod Flags
pub mod Kept
pub mod Codes
pub mod Asking
pub mod Exchange
pub mod Noting
