-- What becomes of writers that aren't live.
pub mod Burying
pub mod Gone
pub mod GoneActs
pub mod GoneLater
pub mod Mending
pub mod MoreKept
pub mod Recovering
pub mod Settling
