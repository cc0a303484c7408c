-- Laws of fields, and the proof of each function.
pub mod FieldLaws
