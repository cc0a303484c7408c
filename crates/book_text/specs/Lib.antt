-- What a reader must believe of `book`: document 01, section Orders, last paragraph, as definitions.
pub mod Ascii
pub mod BookText
pub mod Writing
