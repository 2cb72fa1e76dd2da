pub mod Verdicts
pub mod Conflicts
pub mod Chains
pub mod Best
pub mod Scans
pub mod Lists
pub mod Meaning
