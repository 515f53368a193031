-- Laws of renewal dates.
pub mod TableLaws
pub mod Numbered
pub mod RenewingLaws
pub mod Inside
pub mod InTurn
pub mod Between
pub mod Weekdays
pub mod Unique
