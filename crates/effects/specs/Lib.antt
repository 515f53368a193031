-- What a command leaves.
pub mod Effects
pub mod Recording
pub mod Reply
pub mod InnerLeaving
