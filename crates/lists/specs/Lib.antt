-- What a reader must believe of lists: document 01, section Orders, as definitions.
pub mod Lists
pub mod Runs
