-- The rows of a picture as text.
pub mod Rows
pub mod Told
pub mod InnerDrawn
