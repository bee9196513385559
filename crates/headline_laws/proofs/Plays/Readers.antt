-- What the statements show that open, read and tell.
pub mod ByWorkers
pub mod Cached
pub mod Listings
pub mod Opened
pub mod Openings
pub mod ReadLines
pub mod Refreshed
pub mod Seeing
pub mod Told
