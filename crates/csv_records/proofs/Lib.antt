pub mod Places
pub mod Limit
pub mod Records
pub mod Grammar
pub mod Going
pub mod Examples
pub mod Answers
pub mod Cutting
