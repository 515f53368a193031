-- Laws of the definitions.
pub mod Plain
pub mod WellFormed
pub mod SumLaws
pub mod WalkLaws
pub mod StepsLaws
pub mod FoundBlocks
pub mod SurveyingLaws
pub mod TakingLaws
pub mod Unique
