-- Running one frame on a board, making a fresh board, the port driver's call; and what is said of runs.
pub mod Run
pub mod Fresh
pub mod Errors
pub mod Counts
pub mod Starts
pub mod InnerRunning
