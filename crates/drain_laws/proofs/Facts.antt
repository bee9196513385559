-- What other crates may cite of this crate's proofs.
pub use Rattle.drain_laws.proofs.LooksLemmas.{CallsOnly, gathers_only}
