pub mod Asking
pub mod Heads
pub mod Requests
pub mod Telling
