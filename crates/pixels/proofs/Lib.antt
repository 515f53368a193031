-- Laws of pixels and of the store.
pub mod PixelsLaws
pub mod Picturing
pub mod Storing
