-- Small files read.
pub mod Breaking
pub mod Broken
pub mod Freely
pub mod Looked
pub mod Looks
pub mod Scanned
pub mod Told
