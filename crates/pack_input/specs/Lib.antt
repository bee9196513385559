pub mod Answers
pub mod Digits
pub mod Input
pub mod Laws
pub mod Layout
pub mod Reading
pub mod Words
