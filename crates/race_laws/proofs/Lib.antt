pub mod Places
pub mod Reordered
pub mod Listed
pub mod Traces
pub mod Back
pub mod Models
