-- Names and paths: when they are one, their byte order, and lists in which none stands twice.
pub mod ByteOrder
pub mod Differing
pub mod Naming
pub mod Places
pub mod Searches
