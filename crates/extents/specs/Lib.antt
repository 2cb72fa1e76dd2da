pub mod Answers
pub mod LookupAnswers
pub mod Entries
