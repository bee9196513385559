pub mod Data
pub mod Counts
pub mod Outcomes
