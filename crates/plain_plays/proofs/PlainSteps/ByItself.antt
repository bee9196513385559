-- What a caller by itself does leaves a plain machine its files.
pub mod Idling
pub mod Opened
pub mod Packing
pub mod Counting
pub mod Migrating
