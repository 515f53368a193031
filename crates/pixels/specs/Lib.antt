-- Pixels in a store.
pub mod Pixels
pub mod Store
pub mod InnerHalves
