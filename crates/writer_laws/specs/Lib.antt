pub mod Counting
pub mod Knowing
pub mod Waiting
pub mod Surviving
