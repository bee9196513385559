pub mod Facts
pub mod Losing
mod Losses
mod Surviving
mod Syncing
