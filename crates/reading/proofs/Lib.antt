-- Laws of the definitions.
pub mod FrameLaws
pub mod InCapitals
pub mod Translating
pub mod LeadLaws
pub mod Marks
pub mod Chars
pub mod Parting
pub mod Rooms
pub mod Viewing
pub mod Unique
pub mod Computing
