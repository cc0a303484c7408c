pub mod Rules
pub mod Answers
pub mod Checked
pub mod Chains
pub mod Passed
