-- Laws of a "$" list, and what the functions go by.
pub mod RecordLaws
pub mod Cuts
pub mod CapitalsLaws
pub mod LabelsLaws
pub mod Listing
pub mod Laying
pub mod Refusing
pub mod ConfigurationLaws
pub mod StartingLaws
