-- Many callers in phases.
pub mod Calling
pub mod Calls
pub mod Ending
pub mod Facts
pub mod Going
pub mod Making
pub mod Numbers
pub mod OneThread
pub mod Parts
pub mod Phases
pub mod Playing
pub mod Safety
pub mod Sharing
pub mod WrittenTurns
