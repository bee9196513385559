-- Calls by which a writer enters, writes and leaves keep soundness.
pub mod Ending
pub mod Entering
pub mod Leaving
pub mod Stages
pub mod Working
pub mod WriteEntries
pub mod Writes
