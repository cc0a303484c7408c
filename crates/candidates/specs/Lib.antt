pub mod Answers
pub mod Edges
pub mod SearchedTo
