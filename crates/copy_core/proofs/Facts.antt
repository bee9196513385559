-- What other crates may cite of this crate's proofs.
pub use Rattle.copy_core.proofs.Calls.{begun_copying_called, copied_called}
pub use Rattle.copy_core.proofs.Cases.{Place, Told, made_told, told_cases}
pub use Rattle.copy_core.proofs.Ends.{CopiesEnd, copy_stuck}
