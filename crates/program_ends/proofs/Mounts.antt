-- What a mounting finds and says.
pub mod ListingLemmas
pub mod MarkLaws
pub mod MountLemmas
pub mod SoundMarks
