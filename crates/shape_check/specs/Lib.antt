pub mod Seeing
pub mod Rightness
pub mod Told
pub mod Places
pub mod Files
pub mod Shape
