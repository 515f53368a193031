-- Laws of the calls that write, and what the functions go by.
pub mod OutputLaws
pub mod BlocksLaws
pub mod Results
pub mod Reckonings
pub mod WritingLaws
pub mod TakingLaws
pub mod ReformingLaws
pub mod JoiningLaws
pub mod Unique
