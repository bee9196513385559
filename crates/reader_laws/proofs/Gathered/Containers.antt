-- What looks and listings tell of a container.
pub mod Entries
pub mod Listings
pub mod Looking
pub mod Members
pub mod Replied
pub mod Scans
pub mod Truncates
