pub mod Happened
pub mod Passing
pub mod Safe
pub mod Traced
