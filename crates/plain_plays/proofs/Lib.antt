mod Apart
mod Dead
mod Droppings
pub mod Facts
mod Foreign
mod NotAlive
mod OverStores
mod Packings
mod Phases
pub mod PlainSteps
mod Plays
mod Programs
mod Readers
mod Standing
mod Statements
mod Stops
mod Writers
mod Written
