mod Orders
mod Named
mod Ends
mod Truncates
mod Leavings
mod Cuts
mod Sums
mod Sizes
mod Telling
pub mod Facts
