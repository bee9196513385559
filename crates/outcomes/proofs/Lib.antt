pub mod DataLemmas
pub mod Agreeing
pub mod Lanes
