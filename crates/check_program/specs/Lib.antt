pub mod Course
pub mod Lines
pub mod Verdict
pub mod Words
