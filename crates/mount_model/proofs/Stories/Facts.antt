-- What other crates may cite of this crate's proofs.
pub use Rattle.mount_model.proofs.Stories.Calling.{pass_goes, pass_may, process_may}
pub use Rattle.mount_model.proofs.Stories.Calls.{CallsInTwo, after_another, after_own, calls_of_both, in_two, next_call, no_call}
pub use Rattle.mount_model.proofs.Stories.Ending.{any_caller, ends_story, keeps_all_of}
pub use Rattle.mount_model.proofs.Stories.Going.{safe_call, safe_made, safe_sees, went_call, went_made, went_none, went_tells, went_then}
pub use Rattle.mount_model.proofs.Stories.Making.{made_more, made_none}
pub use Rattle.mount_model.proofs.Stories.OneThread.{made_alone}
pub use Rattle.mount_model.proofs.Stories.Parts.{entries_both, entries_first, entries_not_first}
pub use Rattle.mount_model.proofs.Stories.Phases.{played_none, played_phase, played_sees, plays_more}
pub use Rattle.mount_model.proofs.Stories.Playing.{plays_after, plays_made}
pub use Rattle.mount_model.proofs.Stories.Safety.{others_of, process_lasts, safe_first}
pub use Rattle.mount_model.proofs.Stories.Sharing.{absent_made, safe_alone, safe_shares, safe_worker, took_more, took_none, went_alone, went_shares}
pub use Rattle.mount_model.proofs.Stories.WrittenTurns.{turns_made, turns_tell}
