pub mod Answers
pub mod Bookable
pub mod Checks
