-- What is kept of a writer stays kept.
pub mod EntriesLater
pub mod Keeping
pub mod KeptActs
pub mod KeptLater
