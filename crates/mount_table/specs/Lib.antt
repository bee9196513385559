pub mod Roll
pub mod Stages
pub mod Writable
pub mod Settling
pub mod Standing
pub mod Ending
pub mod Admitting
pub mod Scanning
