pub mod Pending
pub mod Held
