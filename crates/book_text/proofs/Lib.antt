-- The laws behind the proofs of the functions
pub mod CaseIPrinted
pub mod Appending
pub mod Decimal
pub mod StartWord
pub mod Printable
pub mod OrderLine
pub mod OrdersPrinted
pub mod TextLength
pub mod WholeText
