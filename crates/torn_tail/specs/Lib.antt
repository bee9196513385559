pub mod Entries
pub mod Writers
pub mod Words
pub mod Steps
pub mod Recovering
pub mod Stages
