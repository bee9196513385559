pub mod Course
pub mod Words
