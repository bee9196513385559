-- Which call gave which container a name, and what lines say of names.
pub mod Broken
pub mod ByOpening
pub mod ByRename
pub mod Following
pub mod Leading
pub mod Seeks
pub mod Speaking
pub mod Spoken
