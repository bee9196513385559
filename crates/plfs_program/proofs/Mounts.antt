-- What a mounting finds and says.
pub mod MountLemmas
