-- What other crates may cite of this crate's proofs.
pub use Rattle.run_core.proofs.Plays.BrokenPlays.{one_breaks}
pub use Rattle.run_core.proofs.Players.Capacity.{capacity}
pub use Rattle.run_core.proofs.Lines.Caused.{never_falls, none_has, play_caused, risen_before, well_or_risen}
pub use Rattle.run_core.proofs.Plays.Dealing.{own_both}
pub use Rattle.run_core.proofs.Faults.EndsWell.{EndsIn, close_well, ends_well, is_no_fault, keeps_well, open_well, stays_well, sync_stays, write_stays}
pub use Rattle.run_core.proofs.Lines.GoodLines.{AreGood, AreWell, AreWellEach, EndsGood, TellsGood, no_line, none_both, through_tells_good, well_first, well_rest}
pub use Rattle.run_core.proofs.Players.Leading.{leads_both, leads_none, went, went_both, went_none}
pub use Rattle.run_core.proofs.Faults.Looking.{IsAnswered, IsFine, Looks, then_looks}
pub use Rattle.run_core.proofs.Faults.OpeningLooks.{each_looks}
pub use Rattle.run_core.proofs.Faults.ReaderLooks.{listing_looks, read_looks, truncs_look}
pub use Rattle.share_workers.proofs.Facts.{memory_both}
pub use Rattle.run_core.proofs.Lines.Rightness.{play_history, play_right}
pub use Rattle.run_core.proofs.Plays.Tables.{left_item, own_no, own_yes}
pub use Rattle.run_core.proofs.Players.Works.{idle_kept, same_some}
pub use Rattle.run_core.proofs.Lines.WorksCaused.{IsWell, NoFault, work_caused}
pub use Rattle.run_core.proofs.Lines.WorksText.{AnyReply, all_of_good, any_well, play_has_text, work_text}
pub use Rattle.run_core.proofs.Statements.Facts.{comes_to_line, work_safe}
pub use Rattle.run_core.proofs.LoneActors.LonePlays.{made_none, made_more, made_play}
