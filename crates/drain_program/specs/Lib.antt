pub mod Complete
pub mod Course
pub mod Driven
pub mod From
pub mod Reporting
pub mod Stepping
pub mod Targets
pub mod Words
