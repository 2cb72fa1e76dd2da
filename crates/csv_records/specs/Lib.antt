pub mod Grammar
pub mod Reading
