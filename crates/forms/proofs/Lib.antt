-- Laws of the three forms, and what the functions go by.
pub mod FormNumbers
pub mod PieceLaws
pub mod FormsLaws
pub mod Escapes
pub mod FormLengths
pub mod LengthsLaws
