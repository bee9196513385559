-- What a container's listing tells: folders, items, writers and truncates.
pub mod FileLemmas
pub mod Found
pub mod HostLemmas
pub mod ItemLemmas
pub mod Looking
pub mod OpenLemmas
pub mod OwnerLemmas
pub mod Searching
pub mod TopLemmas
pub mod TruncOrder
