pub mod CopyLemmas
pub mod DriveLemmas
pub mod OwedLemmas
pub mod PartLemmas
