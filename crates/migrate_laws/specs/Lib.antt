pub mod Closed
pub mod Packed
pub mod Moments
pub mod Migrated
