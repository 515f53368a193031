-- Laws of the rows of a picture.
pub mod Texts
pub mod Onward
pub mod Offs
pub mod Here
pub mod RowsLaws
pub mod Lengths
pub mod ToldLaws
pub mod Meanings
pub mod Telling
pub mod Examples
