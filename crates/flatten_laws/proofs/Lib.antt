mod Shared
mod Started
mod Owns
mod Valid
mod Merged
mod Taken
mod Scanned
mod Finding
mod Kept
mod Pairing
mod Installing
mod Flattening
pub mod Facts
