pub mod CoverLemmas
pub mod Throughs
pub mod ReaderLemmas
pub mod Machines
pub mod Making
pub mod Joining
