-- Dates, by year, month and day alone.
pub mod Calendar
