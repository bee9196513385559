mod Breaks
mod Casting
pub mod Facts
mod Phases
mod Steps
mod Tables
