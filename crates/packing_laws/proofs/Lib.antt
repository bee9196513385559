mod Endings
pub mod Facts
mod Kept
mod OnlyUnits
mod Puts
mod SmallFiles
pub mod Unpacking
