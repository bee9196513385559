-- What steps and losses of power leave of a tree.
pub mod Common
pub mod Keeping
pub mod Lengthening
pub mod Losing
pub mod OrderKept
pub mod Sparing
pub mod Telling
pub mod Touching
