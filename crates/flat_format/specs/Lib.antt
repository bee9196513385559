pub mod Bad
pub mod Covers
pub mod Judged
pub mod Messages
pub mod Order
pub mod Reading
pub mod Spelling
pub mod Valid
