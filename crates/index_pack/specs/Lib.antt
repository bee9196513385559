pub mod Bad
pub mod Messages
pub mod Reading
pub mod RunEnds
pub mod Runs
pub mod Spelling
pub mod Valid
