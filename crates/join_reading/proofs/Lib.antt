pub mod Asking
pub mod Judging
pub mod Laws
