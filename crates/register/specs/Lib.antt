-- The serial error status register.
pub mod Register
