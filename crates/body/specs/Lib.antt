-- A frame's body: the blocks, their sums, where they stand, and the reader that takes them.
pub mod Sum
pub mod Body
pub mod Steps
pub mod Readers
pub mod InnerWalking
pub mod InnerSurveying
pub mod InnerTaking
