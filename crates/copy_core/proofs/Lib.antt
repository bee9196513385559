mod Blocks
mod Calls
mod Cases
mod Clearings
mod Copies
mod Ends
pub mod Facts
mod Readings
mod Writings
