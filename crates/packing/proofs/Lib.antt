pub mod Adding
pub mod PackingLaws
pub mod Answer
pub mod InEachForm
