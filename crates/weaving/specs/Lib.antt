-- What the functions of this crate promise; weaving itself is in crate tree (specs/Weaving.antt).
pub mod Sides
