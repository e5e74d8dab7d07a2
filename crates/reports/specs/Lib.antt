pub mod Reports
pub mod Stops
pub mod Players
pub mod Counts
