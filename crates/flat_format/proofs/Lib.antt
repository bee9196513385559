mod Breaking
pub mod Facts
mod Fitting
mod Formats
mod Joined
mod Judging
mod Ordered
mod Spelled
