mod Arrivals
pub mod Facts
mod Outputs
mod Readings
pub mod Untold
