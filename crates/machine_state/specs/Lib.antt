pub mod Answers
pub mod Files
pub mod Replays
