pub mod Shares
pub mod Sizes
pub mod Attributes
pub mod Listings
pub mod Asking
pub mod Stages
