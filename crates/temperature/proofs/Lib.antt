-- Laws of the temperature offset and of corrected readings.
pub mod OffsetLaws
pub mod CorrectingLaws
pub mod Spelling
pub mod Exact
pub mod Unique
