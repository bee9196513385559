mod Alone
mod Behind
mod Dealing
pub mod Facts
mod Listings
mod Made
