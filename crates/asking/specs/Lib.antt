pub mod Answers
pub mod Visits
pub mod Turns
