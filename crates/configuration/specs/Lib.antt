-- The "$" list.
pub mod Capitals
pub mod Records
pub mod Configuration
pub mod Starting
pub mod InnerFiling
