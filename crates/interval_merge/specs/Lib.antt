pub mod Clip
pub mod Sweep
pub mod Lists
pub mod Writer
