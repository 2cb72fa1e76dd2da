pub mod Scanning
pub mod Looking
pub mod Counting
pub mod Parted
pub mod Places
pub mod Quads
pub mod Listing
