-- The temperature offset, and readings corrected by it.
pub mod Offset
pub mod Correcting
pub mod InnerSum
