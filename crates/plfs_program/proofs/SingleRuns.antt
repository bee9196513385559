-- A run is a function.
pub mod Twice
pub mod Courses
pub mod Mountings
pub mod OneWay
pub mod Plays
pub mod Quiet
pub mod Packs
pub mod Scans
pub mod Came
pub mod Each
pub mod Finds
pub mod Apart
pub mod Works
pub mod Cats
