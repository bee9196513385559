mod Contents
pub mod Facts
mod Held
mod Landed
mod Losses
mod Makers
mod Names
mod OrderlyLines
pub mod Plays
mod Reasons
mod Stamps
mod Statements
mod Story
mod Trees
mod Whole
