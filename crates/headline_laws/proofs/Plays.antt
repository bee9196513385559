-- What the lines of a play show.
pub mod Callers
pub mod DeadWriters
pub mod Facts
pub mod Holds
pub mod Lines
pub mod Readers
pub mod Refused
pub mod Writers
