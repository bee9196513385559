-- What other crates may cite of this crate's proofs.
pub use Rattle.step_laws.proofs.Making.{Alike, AreOne}
pub use Rattle.step_laws.proofs.Steps.{steps_one}
pub use Rattle.step_laws.proofs.Mounting.{mounts_one, mounted_faults, mounted_tells}
pub use Rattle.step_laws.proofs.Failing.{fails_one, fails_rise, mounts_or_fails}
