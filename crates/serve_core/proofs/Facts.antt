-- What other crates may cite of this crate's proofs.
pub use Rattle.serve_core.proofs.Phases.{none_served, one_more, is_play, is_broken, rest_after, served_is_front}
