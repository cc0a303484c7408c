pub mod Answers
pub mod Tryable
