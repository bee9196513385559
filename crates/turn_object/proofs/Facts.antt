-- What other crates may cite of this crate's proofs.
pub use Rattle.turn_object.proofs.Fronts.{legal_given, legal_kept, legal_new}
pub use Rattle.turn_object.proofs.Happening.{callers_below, happens_first, happens_rest, happens_snoc, may_along, none_above}
pub use Rattle.turn_object.proofs.Histories.{entries_other, entries_same, longer_begins, longer_is, squeeze, starts_after, state_append}
