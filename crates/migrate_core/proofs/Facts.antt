-- What other crates may cite of this crate's proofs.
pub use Rattle.migrate_core.proofs.EntryLemmas.{told_none}
pub use Rattle.migrate_core.proofs.LongestLemmas.{packing_is}
