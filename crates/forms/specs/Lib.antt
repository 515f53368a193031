-- "Three forms we write."
pub mod Forms
pub mod InnerPieces
pub mod InnerLengths
pub mod InnerNumbers
