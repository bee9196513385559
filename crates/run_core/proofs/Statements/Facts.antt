-- What other crates may cite of this crate's proofs.
pub use Rattle.run_core.proofs.Statements.Coming.{comes_to_line}
pub use Rattle.run_core.proofs.Statements.Safety.{carried_safe, harmless_safe}
pub use Rattle.run_core.proofs.Statements.Works.{work_safe}
