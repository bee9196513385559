pub mod Answers
pub mod Exchanging
pub mod Placing
