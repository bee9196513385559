pub mod Filled
pub mod Growing
pub mod Shown
