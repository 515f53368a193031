-- What C is told where the call below answers a yes or no, or an enum.
pub mod Truth
pub mod Blocks
