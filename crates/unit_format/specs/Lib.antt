pub mod Alike
pub mod Finding
pub mod Regions
pub mod Scanning
pub mod Units
