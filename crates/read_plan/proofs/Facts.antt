-- What other crates may cite of this crate's proofs.
pub use Rattle.read_plan.proofs.PlanLemmas.{spelled-plan}
pub use Rattle.read_plan.proofs.RangeLemmas.{pieces_in-met, pieces_in-missed}
