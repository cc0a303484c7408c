pub mod Common
pub mod Joinable
pub mod Levels
