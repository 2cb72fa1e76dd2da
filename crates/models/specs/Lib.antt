pub mod Models
pub mod Table
