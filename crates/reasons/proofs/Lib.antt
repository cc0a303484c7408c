pub mod NodeFinding
pub mod ClassLines
pub mod Answering
