-- What other crates may cite of this crate's proofs.
pub use Rattle.mount_sound.proofs.Calls.Acting.{ActsOn, GoesOn, IsActed, OfEachAct, acts_so, answer_acts, cut_acts, step_acts}
pub use Rattle.mount_sound.proofs.Calls.Aside.{IsAside, IsFrom, OpensNone, SparesFlats, goes_aside, look_aside, rooms_from, stays_shut}
pub use Rattle.mount_sound.proofs.Droppings.Closing.{open_or_closing}
pub use Rattle.mount_sound.proofs.Owed.DroppingOwed.{IndexNow, drawn_there, gone_later, in_later, index_now, item_later, landed_now, later, mend_lasts, not_live_later, stay_later, sync_dropping_lasts, whole_now}
pub use Rattle.mount_sound.proofs.Writers.Ending.{stop_issues}
pub use Rattle.mount_sound.proofs.Writers.Entering.{new_id}
pub use Rattle.mount_sound.proofs.Kept.EntriesLater.{KeepsEach, first_more, keeps_each, room_keeps}
pub use Rattle.mount_sound.proofs.Moments.Fine.{may_last, mounted_fine, step_fine, was_clean}
pub use Rattle.mount_sound.proofs.Soundness.Fitting.{all_take, fit_below, fit_least, fit_length, fit_past, fit_within, front_items, front_of_front, logged_append, logged_parts, order_append, order_drop, take_less}
pub use Rattle.mount_sound.proofs.Indices.FlatActs.{fits_own, named_own, start_told}
pub use Rattle.mount_sound.proofs.Calls.FlatFiles.{IsCreate, IsNoDropping, LeavesFile, StandsAfter, acts_leave, as_before, file_acts, flattening_no_dropping, meta_no_dropping}
pub use Rattle.mount_sound.proofs.Owed.FlatOwed.{StandsIn, put_flat_lasts, step_leaves}
pub use Rattle.mount_sound.proofs.Indices.FlatPaths.{IsFlattenings, IsNoFlattenings, index_no_flattenings, is_installeds, is_temporarys, log_no_flattenings, meta_no_flattenings, moved_to, not_flattenings, one_folder, other_folder, trunc_no_flattenings}
pub use Rattle.mount_sound.proofs.Indices.Flats.{KeepsAllEntries, KeepsEntries, MetasStay, all_covered_on, covered_on, flats_frame, kept_entries, right_frame, same_covered}
pub use Rattle.mount_sound.proofs.Indices.FlatsLater.{underway_of}
pub use Rattle.mount_sound.proofs.Indices.Flattening.{AreNamed, are_named, flat_container, flat_id_fits}
pub use Rattle.mount_sound.proofs.Droppings.Flushes.{begins_more, begins_old}
pub use Rattle.mount_sound.proofs.Soundness.Frames.{Fits, dropping_frame, log_frame}
pub use Rattle.mount_sound.proofs.DeadWriters.Gone.{IsGone, gone_rows, in_room}
pub use Rattle.mount_sound.proofs.DeadWriters.GoneActs.{IsGoneFrom, IsItsMend, IsOnAnother, SparesGone, gone_anywhere, letter, on_another}
pub use Rattle.mount_sound.proofs.DeadWriters.GoneLater.{StayGone, StayGoneIn, step_leaves_gone}
pub use Rattle.mount_sound.proofs.Moments.Growing.{call_issues}
pub use Rattle.mount_sound.proofs.Soundness.HasLanded.{landed_is, landed_was_issued}
pub use Rattle.mount_sound.proofs.Indices.Installing.{indices_stay, left_packs, one_pack, step_flat_stays, step_pack_stays}
pub use Rattle.mount_sound.proofs.Soundness.Items.{SameButItem, apart, had, had_item_of, has_still, is_index, is_log, is_open, owner}
pub use Rattle.mount_sound.proofs.Kept.Keeping.{AreKept, AreKeptIn, AreWithin, are_kept, few, fewer, kept_landed, kept_long, kept_most, landed_number, same_host}
pub use Rattle.mount_sound.proofs.Kept.KeptLater.{kept_no_less, step_keeps_kept}
pub use Rattle.mount_sound.proofs.Moments.LandedLater.{history_stays, items_stay, landed_from, landed_stays}
pub use Rattle.mount_sound.proofs.Soundness.Landing.{IsWhole, content_take, entries_landed, entries_take, in_order_take, logged_take, no_writes, writes_take}
pub use Rattle.mount_sound.proofs.Moments.LawfulParts.{lawful_first, lawful_rest}
pub use Rattle.mount_sound.proofs.Soundness.Live.{Own, its_host}
pub use Rattle.mount_sound.proofs.Soundness.Local.{AllFit, no_room, some_room}
pub use Rattle.mount_sound.proofs.Calls.Making.{HasSoundWriters, accounted, all_fit, its_writers, one_tree}
pub use Rattle.mount_sound.proofs.Indices.Makings.{is_installed, is_temporary, named_of, one_temporary, two_kinds}
pub use Rattle.mount_sound.proofs.DeadWriters.MoreKept.{KeepsFiles, synced_keeps}
pub use Rattle.mount_sound.proofs.Moments.Mounting.{mounted_keeps, mounted_sound}
pub use Rattle.mount_sound.proofs.Holds.NewRooms.{IsBare, hostdir_below, made_bare, no_item}
pub use Rattle.mount_sound.proofs.Calls.Nothing.{owes_nothing}
pub use Rattle.mount_sound.proofs.Soundness.Orders.{above_floor, drop_past, greatest_end_push, in_order_from_0, in_order_push, last_stamp_push, logged_push, some_logged, take_all, take_of_none}
pub use Rattle.mount_sound.proofs.Owed.OwedLater.{owes_last}
pub use Rattle.mount_sound.proofs.DeadWriters.Recovering.{done_made, has_recovered, meta_made, only_dead}
pub use Rattle.mount_sound.proofs.Owed.RecoveryOwed.{bury_lasts, mend_meta_lasts, meta_stays, none_whole, room_was}
pub use Rattle.mount_sound.proofs.Moments.SoundLater.{IsAsideCall, history_keeps, its_flats, step_keeps}
pub use Rattle.mount_sound.proofs.Writers.Stages.{live_stage, stage_live, working}
pub use Rattle.mount_sound.proofs.Moments.Staying.{LeavesItems, at_least, landed_fits, paths_differ, step_stays}
pub use Rattle.mount_sound.proofs.Moments.Steps.{untimed_owes, untimed_regular, untimed_writers}
pub use Rattle.mount_sound.proofs.Soundness.Tables.{one_row}
pub use Rattle.mount_sound.proofs.Soundness.There.{read_in_sound, told_in_sound, told_issued, told_landed, told_read, writer_told}
pub use Rattle.mount_sound.proofs.Soundness.Trees.{left_sound}
pub use Rattle.mount_sound.proofs.Writers.Working.{Working, its_fit, its_kept, its_own, its_stage}
pub use Rattle.mount_sound.proofs.Writers.WriteEntries.{length-content}
