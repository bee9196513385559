pub mod Parts
pub mod Ranges
pub mod Plan
pub mod Brackets
