-- What the functions of this crate promise; the image itself is in crate tree (specs/Image.antt, specs/ImageReading.antt).
pub mod Images
pub mod Added
pub mod Parts
pub mod Writing
