pub mod Computing
pub mod Examples
