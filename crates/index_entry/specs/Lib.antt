pub mod Entries
pub mod Messages
pub mod Records
pub mod Spelling
pub mod Valid
pub mod Within
