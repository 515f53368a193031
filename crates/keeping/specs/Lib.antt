-- What every command keeps.
pub mod Keeping
