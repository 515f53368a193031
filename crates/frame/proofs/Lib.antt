-- What the frame layer promises. Frames, Standing and Stepping are for the layers above it, and Computing for who computes with its
-- definitions; the others are the second demand, that what we write reads back, and what it rests on.
pub mod Computing
pub mod Frames
pub mod Standing
pub mod Stepping
pub mod Printing
pub mod BodyBack
pub mod FormBytes
pub mod RoundTrip
pub mod Limits
pub mod Appending
pub mod Succeeds
pub mod Delivered
pub mod Again
pub mod Associates
pub mod Instances
pub mod ReadBack
