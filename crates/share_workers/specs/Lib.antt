pub mod Passes
pub mod Workers
