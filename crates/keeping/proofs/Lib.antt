-- What every command keeps.
pub mod Messages
pub mod Changes
pub mod Keeping
