-- Laws of the special functions, and what the functions go by.
pub mod TellLengths
pub mod Settles
pub mod Telling
