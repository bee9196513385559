-- What other crates may cite of this crate's proofs.
pub use Rattle.mount_undamaged.proofs.Steps.{step_shows}
