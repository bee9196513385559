-- What the lines of all statements show.
pub mod Actors
pub mod Casts
pub mod Changed
pub mod Counted
pub mod Statements
pub mod Undamaging
