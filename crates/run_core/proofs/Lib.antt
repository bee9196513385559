pub mod Facts
mod Faults
mod Lines
mod LoneActors
mod Players
mod Plays
pub mod Statements
