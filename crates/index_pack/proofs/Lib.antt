mod Ends
pub mod Facts
mod Following
mod Formats
mod Growing
mod Judging
mod Longest
mod Making
mod ReachedLemmas
mod Spelled
