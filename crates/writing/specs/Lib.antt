-- The calls that write: a one-command frame, a frame in another form, two frames joined.
pub mod Output
pub mod Writing
pub mod Reforming
pub mod Joining
pub mod InnerSources
pub mod InnerRefusals
pub mod InnerFrames
