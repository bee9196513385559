-- What is told of the bytes of an index, flattened, packed or of one writer.
pub mod CoverOrder
pub mod Deciding
pub mod EntryLemmas
pub mod FirstLemmas
pub mod FlatMeaning
pub mod FlatRuleLemmas
pub mod PackRuleLemmas
pub mod PackedLemmas
pub mod RunLemmas
pub mod TailLemmas
