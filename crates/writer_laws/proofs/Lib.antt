pub mod Facts
mod Rows
mod Steps
pub mod Own
pub mod Stops
mod Histories
mod Machines
mod Closes
mod Opens
mod Counts
mod Regulars
mod Waits
mod Surviving
mod Telling
mod Leavings
mod Enterings
