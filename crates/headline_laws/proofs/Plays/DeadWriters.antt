-- What the line of a recovery shows.
pub mod Alive
pub mod NoBytes
pub mod OpenWriters
pub mod Recovered
pub mod Recoveries
