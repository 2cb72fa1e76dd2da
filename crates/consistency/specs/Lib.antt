pub mod Orders
pub mod Files
