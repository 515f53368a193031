-- Laws of dates.
pub mod Bounds
