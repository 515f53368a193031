-- What the functions go by, case by case; and that a reading has one outcome.
pub mod Telling
pub mod Unique
