-- The act of a call.
use Rattle.std.specs.Prelude.{ℕ, List, [], ◌∷◌, length, Bool, Option, Some, None, option_and_then}
use Rattle.plfs_types.specs.declared.entries.Entry.{Entry}
use Rattle.store_api.specs.Step.{Step, rooms as all_rooms, find_room, make_room, list_folder}
use Rattle.mount_model.specs.declared.call.Call.{Call}
use Rattle.mount_model.specs.declared.call.Call.TheVariants.{Greet, Find, MakeContainer, Rooms, Look, Enter, Floor, MakeHostdir, MakeIndex, MakeLog, Write, Flush, SyncLog, SyncIndex, PutMeta, Exit, Hold, Mark, Move, Release, StartFlat, PutFlat, SyncFlat, InstallFlat, StartPack, SyncDropping, Inspect, Mend, MendMeta, Bury, MendHold}
use Rattle.mount_model.specs.declared.row.Row.{Row}
use Rattle.mount_model.specs.declared.row.Stage.{Stage}
use Rattle.mount_model.specs.declared.row.Stage.TheVariants as stage
use Rattle.mount_model.specs.declared.reply.Refusal.{Refusal}
use Rattle.mount_model.specs.Paths.{new_folders, new_files, truncs}
use Rattle.mount_model.specs.declared.row.Holder.{Holder}
use Rattle.mount_model.specs.declared.row.Flattening.{Flattening}
use Rattle.mount_model.specs.declared.row.FlatStage.{FlatStage}
use Rattle.mount_model.specs.declared.row.FlatStage.TheVariants.{Begun, Put, Synced}
use Rattle.mount_model.specs.declared.row.Making.TheVariants as making
use Rattle.mount_model.specs.Table.{only, may_close, is_live, writer_of, holder_of, flattening_of}
use Rattle.mount_model.specs.State.{State}
use Rattle.mount_model.specs.Making.{room_check}
use Rattle.mount_model.specs.Looking.{look_step}
use Rattle.mount_model.specs.Entering.{draw_check, enter_step}
use Rattle.mount_model.specs.Building.{hostdir_step, index_step, log_step}
use Rattle.mount_model.specs.Writing.{write_check, write_step}
use Rattle.mount_model.specs.Flushing.{flush_step, sync_log_step, sync_index_step}
use Rattle.mount_model.specs.Leaving.{put_meta_check, put_meta_step, exit_check, exit_step}
use Rattle.mount_model.specs.Holding.{hold_step, truncate_check, truncate_stamp, truncate_step, rename_step, release_step}
use Rattle.mount_model.specs.Flattening.{begun_flat, start_step, put_flat_step, sync_flat_step, install_step}
use Rattle.mount_model.specs.Recovering.{sync_dropping_step, mend_check, mend_step, mend_meta_step, bury_step, mend_hold_check, mend_hold_step}

-- the act of a call on the caller's writer, where it has it in one of these stages
abbrev pub writers_act : ℕ → (Stage → Bool) → ℕ → State → (Row → Option Step) → Option Step
writers_act caller stages writer old act = option_and_then act (writer_of caller stages writer old.table.writers)

-- no act where there is a reason against it
abbrev pub unless : Option Refusal → Step → Option Step
unless None step = Some step
unless (Some why) step = None

-- none where nothing is pending
abbrev pub flush_act : Row → List Entry → Option Step
flush_act row [] = None
flush_act row (first ∷ rest) = Some (flush_step row)

-- the act of a call on the room that the caller holds
abbrev pub holders_act : ℕ → ℕ → State → (Holder → Option Step) → Option Step
holders_act caller number old act = option_and_then act (holder_of caller number old.table.holders)

-- the act of a call on the caller's flattening, where this is its stage
abbrev pub flattenings_act : ℕ → FlatStage → ℕ → State → (Flattening → Option Step) → Option Step
flattenings_act caller stage id old act = option_and_then act (flattening_of caller stage id old.table.flattenings)

-- The act of a call that passes its checks, at this time: none where it is refused, or makes none.
abbrev pub act_of : ℕ → State → ℕ → Call → Option Step
act_of time old caller Greet = None
act_of time old caller (Find name) = Some (find_room name)
act_of time old caller (MakeContainer name) = Some (make_room name new_folders new_files)
act_of time old caller Rooms = Some all_rooms
act_of time old caller (Look room look) = unless (room_check old room) (look_step room look)
act_of time old caller (Enter room host cap) = unless (draw_check old room) (enter_step old room host)
act_of time old caller (Floor writer) = writers_act caller (only stage.Entered) writer old (λ row. Some (list_folder row.room truncs))
act_of time old caller (MakeHostdir writer) = writers_act caller (only stage.Floored) writer old (λ row. Some (hostdir_step row))
act_of time old caller (MakeIndex writer) = writers_act caller (only stage.Housed) writer old (λ row. Some (index_step row))
act_of time old caller (MakeLog writer) = writers_act caller (only stage.Indexed) writer old (λ row. Some (log_step row))
act_of time old caller (Write writer at block) = writers_act caller (only stage.Open) writer old (λ row. unless (write_check row at (length block)) (write_step row block))
act_of time old caller (Flush writer) = writers_act caller (only stage.Open) writer old (λ row. flush_act row row.pending.entries)
act_of time old caller (SyncLog writer) = writers_act caller (only stage.Open) writer old (λ row. Some (sync_log_step row))
act_of time old caller (SyncIndex writer) = writers_act caller (only stage.Open) writer old (λ row. Some (sync_index_step row))
act_of time old caller (PutMeta writer) = writers_act caller may_close writer old (λ row. unless (put_meta_check row) (put_meta_step row))
act_of time old caller (Exit writer) = writers_act caller is_live writer old (λ row. unless (exit_check row) (exit_step row))
act_of time old caller (Hold room) = unless (draw_check old room) (hold_step room)
act_of time old caller (Mark holder size top) = holders_act caller holder old (λ h. unless (truncate_check size top) (truncate_step h (truncate_stamp time top) size))
act_of time old caller (Move holder to) = holders_act caller holder old (λ h. Some (rename_step h to))
act_of time old caller (Release holder) = holders_act caller holder old (λ h. Some (release_step h))
act_of time old caller (StartFlat room) = unless (draw_check old room) (start_step (begun_flat old caller room making.Flat))
act_of time old caller (PutFlat flat bytes) = flattenings_act caller Begun flat old (λ f. Some (put_flat_step f bytes))
act_of time old caller (SyncFlat flat) = flattenings_act caller Put flat old (λ f. Some (sync_flat_step f))
act_of time old caller (InstallFlat flat) = flattenings_act caller Synced flat old (λ f. Some (install_step f))
act_of time old caller (StartPack room host writer) = unless (draw_check old room) (start_step (begun_flat old caller room (making.Pack host writer)))
act_of time old caller (SyncDropping room host writer is_log) = unless (room_check old room) (sync_dropping_step room host writer is_log)
act_of time old caller (Inspect writer) = None
act_of time old caller (Mend room host writer count) = unless (mend_check old room writer) (mend_step room host writer count)
act_of time old caller (MendMeta room host cover last) = unless (mend_check old room cover.writer) (mend_meta_step room host cover last)
act_of time old caller (Bury room host writer) = unless (mend_check old room writer) (bury_step room host writer)
act_of time old caller (MendHold room) = unless (mend_hold_check old room) (mend_hold_step room)
