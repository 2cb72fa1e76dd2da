pub mod Laying
pub mod Sharing
