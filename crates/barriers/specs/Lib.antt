pub mod Barriers
pub mod Participants
pub mod Tables
