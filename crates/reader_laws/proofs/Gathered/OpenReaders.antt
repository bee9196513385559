-- What a reader has once it is open, and what it answers.
pub mod Actors
pub mod Answering
pub mod Failing
pub mod Opening
pub mod Parts
pub mod Shares
pub mod Viewing
