mod Copyings
mod ImportTroubles
pub mod Imports
pub mod PutCourses
mod Statuses
