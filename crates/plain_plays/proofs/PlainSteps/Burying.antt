-- A recovery of dead writers is a step of a plain machine.
pub mod Leaving
pub mod Measuring
pub mod Writers
pub mod Room
pub mod Recovering
pub mod Statement
pub mod Whole
