-- What the second and the third demand say of frames that we write, re-form or join.
pub mod Results
pub mod Joinable
