pub mod Shares
pub mod Looking
