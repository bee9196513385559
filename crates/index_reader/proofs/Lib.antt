pub mod Containers
pub mod Facts
pub mod Indices
mod ZeroLemmas
