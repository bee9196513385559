pub mod Called
pub mod Folders
pub mod Inputs
pub mod Roots
pub mod Telling
