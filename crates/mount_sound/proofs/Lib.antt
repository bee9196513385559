mod Calls
mod DeadWriters
mod Droppings
pub mod Facts
mod Holds
mod Indices
mod Kept
mod Moments
mod Owed
pub mod Shapes
mod Soundness
mod Writers
