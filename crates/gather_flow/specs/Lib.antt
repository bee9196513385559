pub mod Dealing
pub mod Shares
pub mod Workers
pub mod OneIndex
pub mod Gathering
pub mod Called
