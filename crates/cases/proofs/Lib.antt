pub mod Hold
pub mod Together
