-- What a reader must believe of orders: document 01, section Orders, as definitions.
pub mod Order
pub mod Packing
pub mod Reading
