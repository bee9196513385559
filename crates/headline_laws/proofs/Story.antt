-- Of each line its part of the history, and the container that it speaks of.
pub mod Apart
pub mod Attributed
pub mod Entered
pub mod FirstNames
pub mod Lines
pub mod Listing
pub mod Named
pub mod Namings
pub mod OneOpener
pub mod Opened
pub mod Ordered
pub mod Parts
pub mod Quiet
pub mod Refused
pub mod Shown
pub mod Spans
