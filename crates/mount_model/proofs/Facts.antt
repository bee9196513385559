-- What other crates may cite of this crate's proofs.
pub use Rattle.mount_model.proofs.Before.{step_flattened, step_held}
pub use Rattle.mount_model.proofs.Beginning.{mounted_regular}
pub use Rattle.mount_model.proofs.Dead.{IsDeadIn, only_live, step_stays_dead}
pub use Rattle.mount_model.proofs.Deciding.{IsHeld, IsHolding, IsUnderway, MayTruncate, MayWrite, at_only, is_container, is_dead, is_held, is_holding, is_underway, match_cases, may_enter, may_mend, may_mend_hold, may_truncate, may_write, not_live, on_flattening, on_holder, on_writer, step_cases, unless_refused}
pub use Rattle.mount_model.proofs.Foreign.{no_item}
pub use Rattle.mount_model.proofs.Holders.{all-unmap, all-with_flattening, all-without_flattening, all-without_holder, ascend-push, ascend-without_flattening, ascend-without_holder, flattening_at-push, flattening_at-with_flattening, flattening_at-without_flattening, flattening_at_all, flattening_at_id, flattening_at_none, flattening_at_other-push, flattening_at_other-with_flattening, flattening_at_other-without_flattening, found_before-ended, found_before-push, found_before-with_flattening, found_before-without_flattening, held_before-ended, held_before-push, held_before-without_holder, holder_at-push, holder_at-without_holder, holder_at_all, holder_at_none, holder_at_number, holder_at_other-push, holder_at_other-without_holder, not_held, still_found-ended, still_found-push, still_held-ended, still_held-push}
pub use Rattle.mount_model.proofs.Holding.{FlatteningsMade, HoldersMade, IsElsewhere, KeepsHolders, TurnsHolders, answers_keep, answers_turn, step_flattens, step_holds}
pub use Rattle.mount_model.proofs.Lasting.{ended_regular, step_regular}
pub use Rattle.mount_model.proofs.NoWriters.{IsOnNoWriter, writers_spared}
pub use Rattle.mount_model.proofs.Places.{step_place}
pub use Rattle.mount_model.proofs.Ranges.{IsStamp, next_is_stamp}
pub use Rattle.mount_model.proofs.Replying.{step_causes, step_fits, stop_replies}
pub use Rattle.mount_model.proofs.Rows.{IsRegularRow, drawn_later, flattening_apart, holder_apart, next_not_flattened, next_not_held, regular_for, regular_of, regular_row, rows_of}
pub use Rattle.mount_model.proofs.Stopping.{begun_table, stop_left}
pub use Rattle.mount_model.proofs.Tables.{itself, row_of-push, row_of-with_row, row_of-without_row, row_of_all, row_of_id, row_of_other-push, row_of_other-with_row, row_of_other-without_row}
