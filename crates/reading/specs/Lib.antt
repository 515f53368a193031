-- How a frame reads, and where its parts stand.
pub mod Translation
pub mod Lead
pub mod Reading
pub mod Capitals
pub mod Places
pub mod InnerParts
