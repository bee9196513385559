pub mod Blocks
pub mod Clearing
pub mod Reading
pub mod Writing
pub mod Copying
