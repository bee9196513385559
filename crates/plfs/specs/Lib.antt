pub mod Entries
pub mod Streams
pub mod Tasks
pub mod Telling
pub mod Words
