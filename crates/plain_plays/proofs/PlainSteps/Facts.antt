-- What other crates may cite of this crate's proofs.
pub use Rattle.plain_plays.proofs.PlainSteps.Burying.Whole.{recover_takes}
pub use Rattle.plain_plays.proofs.PlainSteps.ByItself.Idling.{idle_mirrors}
pub use Rattle.plain_plays.proofs.PlainSteps.ByItself.Migrating.{migrates_itself}
pub use Rattle.plain_plays.proofs.PlainSteps.ByItself.Opened.{opens_itself}
pub use Rattle.plain_plays.proofs.PlainSteps.ByName.Cutting.{truncate_takes}
pub use Rattle.plain_plays.proofs.PlainSteps.ByName.Naming.{names_take}
pub use Rattle.plain_plays.proofs.PlainSteps.ByName.Renaming.{rename_takes}
pub use Rattle.plain_plays.proofs.PlainSteps.Flats.Flattening.{flatten_takes}
pub use Rattle.plain_plays.proofs.PlainSteps.Looks.Opening.{opening_takes}
pub use Rattle.plain_plays.proofs.PlainSteps.Looks.Readers.{close_takes as reader_closes, map_takes, none_takes, read_takes, reader_stays, second_takes, verify_takes}
pub use Rattle.plain_plays.proofs.PlainSteps.Looks.Refreshing.{refresh_takes}
pub use Rattle.plain_plays.proofs.PlainSteps.Looks.Telling.{tell_takes}
pub use Rattle.plain_plays.proofs.PlainSteps.Looks.Works.{carried_both, tell_work}
pub use Rattle.plain_plays.proofs.PlainSteps.Opening.{opens_well}
pub use Rattle.plain_plays.proofs.PlainSteps.Serving.{closes_well, syncs_well, writes_well}
pub use Rattle.plain_plays.proofs.PlainSteps.Steps.AnyMount.{machine_so}
pub use Rattle.plain_plays.proofs.PlainSteps.Steps.Begun.{begins_so}
pub use Rattle.plain_plays.proofs.PlainSteps.Steps.Joining.{already, open_takes}
pub use Rattle.plain_plays.proofs.PlainSteps.Steps.Keeping.{its_own, no_own, on_own, sync_takes, when, write_takes}
pub use Rattle.plain_plays.proofs.PlainSteps.Steps.Leave.{close_takes}
pub use Rattle.plain_plays.proofs.PlainSteps.Steps.Rooms.{set_here, set_there}
pub use Rattle.plain_plays.proofs.PlainSteps.Truncating.{truncates_above}
