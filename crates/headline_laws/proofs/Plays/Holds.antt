-- What the lines of truncates, renames and flattenings show of their container.
pub mod Changes
pub mod Covering
pub mod Flattened
pub mod Held
pub mod Issued
pub mod Makings
pub mod Renamed
pub mod Tops
pub mod Truncated
pub mod Viewed
