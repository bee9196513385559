pub mod Arriving
pub mod Filling
pub mod Writing
