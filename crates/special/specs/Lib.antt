-- The special functions.
pub mod Special
pub mod InnerSetting
