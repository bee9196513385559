-- What a gathering finds.
pub mod Containers
pub mod Facts
pub mod Indices
pub mod Logs
pub mod Moments
pub mod OpenReaders
pub mod Samples
