-- What a put writes, and in which container.
pub mod Issuing
pub mod Named
pub mod Putting
pub mod Syncing
pub mod Writing
