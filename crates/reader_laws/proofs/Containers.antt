-- Who runs the program of a listing has read the flattened index and scanned the container.
pub mod FileRuns
pub mod FlatBytes
pub mod FlatRuns
pub mod Listings
pub mod NamedPacks
pub mod Scanning
