pub mod Asks
pub mod Entries
pub mod Tables
pub mod InOrder
pub mod Exchange
