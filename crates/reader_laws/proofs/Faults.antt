-- The programs of a reader fail only by the store.
pub mod Failing
pub mod ListingFails
pub mod OpeningFails
pub mod PackFails
pub mod ScanFails
pub mod ShareFails
pub mod ShownFails
pub mod TailFails
pub mod TruncFails
