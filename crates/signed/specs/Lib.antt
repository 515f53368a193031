-- Signed numbers.
pub mod Between
pub mod Floor
