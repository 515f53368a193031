-- Laws of what a command leaves, and what the functions go by.
pub mod ReplyLengths
pub mod ReplyLaws
pub mod Outcomes
pub mod RecordingLaws
