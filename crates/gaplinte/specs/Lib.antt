-- What a reader must believe of the library: the answer as one number, and what each call leaves in the records that it is lent.
pub mod Answer
pub mod Served
pub mod OrdersServed
pub mod ImagesServed
pub mod WeavingServed
