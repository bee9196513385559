-- A play is a function.
pub mod FaultedActs
pub mod Replaying
pub mod Lone
