-- What other crates may cite of this crate's proofs.
pub use Rattle.refusal_laws.proofs.Steps.{does_work, has_reason}
