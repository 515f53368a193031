-- Laws of the serial error status register.
pub mod Noting
