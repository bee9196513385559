mod Decimals
mod Dots
pub mod Facts
mod Misses
mod Places
mod Short
