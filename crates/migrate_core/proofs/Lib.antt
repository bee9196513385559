pub mod EntryLemmas
pub mod Facts
pub mod LongestLemmas
pub mod ReadLemmas
pub mod StepLemmas
pub mod TopLemmas
