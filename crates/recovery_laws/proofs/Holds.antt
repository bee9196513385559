-- Who holds a room.
pub mod Safety
pub mod Tops
pub mod Greatest
pub mod Listed
pub mod Entries
pub mod Waiting
pub mod Truncating
pub mod Telling
pub mod Facts
