mod Actors
mod Closings
mod Commands
mod Exchanges
pub mod Facts
mod Frames
mod Runnings
mod Scripts
mod Soundness
