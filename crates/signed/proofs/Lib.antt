-- Laws of signed numbers.
pub mod Held
pub mod FloorLaws
