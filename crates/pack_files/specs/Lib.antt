pub mod Keys
pub mod Putting
pub mod Puts
pub mod Scanning
pub mod Stages
pub mod Standings
