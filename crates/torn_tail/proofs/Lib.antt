pub mod RunLemmas
pub mod CheckLemmas
pub mod ReadLemmas
pub mod StageLemmas
