-- Renewal dates, weekdays, days between dates.
pub mod Counting
pub mod Renewing
pub mod Days
pub mod Stays
pub mod Following
pub mod Order
pub mod InnerTold
