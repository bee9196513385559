pub mod Doors
pub mod Places
