-- "What each command does".
pub mod Commands
pub mod Blocks
pub mod InnerDoing
