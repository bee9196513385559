mod Checking
mod Cleanly
mod Counting
pub mod Facts
mod FirstEntries
pub mod Holds
mod Leftovers
mod Looking
mod OneHost
mod Ranges
mod Reading
mod Recovering
mod Writers
