mod Admits
mod Counts
mod Ended
pub mod Facts
mod Holds
mod Numbered
mod Rolls
mod Rows
mod Scans
