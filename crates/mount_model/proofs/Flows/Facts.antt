-- What other crates may cite of this crate's proofs.
pub use Rattle.mount_model.proofs.Flows.Running.{RunsInTwo, runs_done, runs_in_two, runs_next}
pub use Rattle.mount_model.proofs.Flows.NameLemmas.{meta_in-found, meta_in-is, trunc_in-found, trunc_in-is, open_in-found, open_in-is}
