-- What may become of the table, whatever an act tells.
use Rattle.std.proofs.Common.{ℕ, ◌++◌, [], ◌∷◌, Ok, Err}
use Rattle.store_api.specs.declared.step.Answer.TheVariants.{Made, Old, Absent, NoFolder, Number, TargetThere}
use Rattle.store_api.specs.declared.store.Trouble.TheVariants as trouble
use Rattle.mount_model.specs.declared.row.Row.{Row}
use Rattle.mount_model.specs.declared.row.Stage.{Stage}
use Rattle.mount_model.specs.declared.row.Stage.TheVariants as stage
use Rattle.mount_model.specs.declared.row.Holder.{Holder}
use Rattle.mount_model.specs.declared.row.Flattening.{Flattening}
use Rattle.mount_model.specs.declared.row.FlatStage.TheVariants.{Put, Synced}
use Rattle.mount_model.specs.Paths.{Name}
use Rattle.mount_model.specs.Table.{at_stage}
use Rattle.mount_model.specs.State.{Table, put, take_out}
use Rattle.mount_model.specs.Making.{Told}
use Rattle.mount_model.specs.Finding.{find_outcome, make_outcome}
use Rattle.mount_model.specs.Entering.{enter_outcome}
use Rattle.mount_model.specs.Building.{build_outcome}
use Rattle.mount_model.specs.Writing.{write_outcome, wrote}
use Rattle.mount_model.specs.Flushing.{flush_outcome, flushed, log_synced, sync_log_outcome, index_synced, sync_index_outcome}
use Rattle.mount_model.specs.Leaving.{put_meta_outcome, closed, closing, exit_outcome}
use Rattle.mount_model.specs.Holding.{truncate_outcome, rename_outcome, let_go, release_outcome}
use Rattle.mount_model.specs.Flattening.{start_outcome, come_to, put_flat_outcome, sync_flat_outcome, drop_flat, install_outcome}
use Rattle.mount_model.specs.Recovering.{done_outcome, mend_meta_outcome, bury_outcome, mend_hold_outcome}

module _ (P : Table → Type 0) (table : Table) (kept : P table) where
  pub find_table : (told : Told) → P (find_outcome table told).table
  find_table (Ok (Number room)) = kept
  find_table (Ok Absent) = kept
  find_table told = kept

  pub make_table : (told : Told) → P (make_outcome table told).table
  make_table (Ok (Number room)) = kept
  make_table (Ok (Old room)) = kept
  make_table told = kept

  pub enter_table : (row : Row) → P (record table { writers = table.writers ++ row ∷ [] }) → (told : Told) → P (enter_outcome row table told).table
  enter_table row entered (Ok Made) = entered
  enter_table row entered (Ok NoFolder) = kept
  enter_table row entered told = kept

  pub build_table : (stage : Stage) (folder file : Name) (row : Row) → P (put (at_stage stage row) table) → (told : Told) → P (build_outcome stage folder file row table told).table
  build_table stage folder file row built (Ok Made) = built
  build_table stage folder file row built (Ok (Old room)) = built
  build_table stage folder file row built told = kept

  pub write_table : (stamp : ℕ) (row : Row) (at len : ℕ) → P (put (wrote stamp row at len) table) → (told : Told) → P (write_outcome stamp row at len table told).table
  write_table stamp row at len written (Ok Made) = written
  write_table stamp row at len written told = kept

  pub flush_table : (row : Row) → P (put (flushed row) table) → (told : Told) → P (flush_outcome row table told).table
  flush_table row landed (Ok Made) = landed
  flush_table row landed told = kept

  pub sync_log_table : (row : Row) → P (put (log_synced row) table) → (told : Told) → P (sync_log_outcome row table told).table
  sync_log_table row synced (Ok Made) = synced
  sync_log_table row synced told = kept

  pub sync_index_table : (row : Row) → P (put (index_synced row) table) → (told : Told) → P (sync_index_outcome row table told).table
  sync_index_table row synced (Ok Made) = synced
  sync_index_table row synced told = kept

  pub put_meta_table : (row : Row) → P (put (closed row) table) → P (put (closing row) table) → (told : Told) → P (put_meta_outcome row table told).table
  put_meta_table row done asked (Ok Made) = done
  put_meta_table row done asked (Ok (Old room)) = done
  put_meta_table row done asked (Err trouble.NoMemory) = kept
  put_meta_table row done asked told = asked

  pub exit_table : (row : Row) → P (take_out row.id table) → P (put (at_stage stage.Dead row) table) → (told : Told) → P (exit_outcome row table told).table
  exit_table row left dead (Ok Made) = left
  exit_table row left dead (Err trouble.Fault) = dead
  exit_table row left dead told = kept

  pub truncate_table : (stamp size : ℕ) (told : Told) → P (truncate_outcome stamp size table told).table
  truncate_table stamp size (Ok Made) = kept
  truncate_table stamp size told = kept

  pub rename_table : (told : Told) → P (rename_outcome table told).table
  rename_table (Ok Made) = kept
  rename_table (Ok TargetThere) = kept
  rename_table told = kept

  pub release_table : (h : Holder) → P (let_go h.number table) → (told : Told) → P (release_outcome h table told).table
  release_table h gone (Ok Made) = gone
  release_table h gone (Ok (Old room)) = gone
  release_table h gone (Err trouble.Fault) = gone
  release_table h gone told = kept

  pub start_table : (f : Flattening) → P (record table { flattenings = table.flattenings ++ f ∷ [] }) → (told : Told) → P (start_outcome f table told).table
  start_table f begun (Ok Made) = begun
  start_table f begun told = kept

  pub put_flat_table : (f : Flattening) → P (come_to Put f table) → (told : Told) → P (put_flat_outcome f table told).table
  put_flat_table f written (Ok Made) = written
  put_flat_table f written told = kept

  pub sync_flat_table : (f : Flattening) → P (come_to Synced f table) → (told : Told) → P (sync_flat_outcome f table told).table
  sync_flat_table f synced (Ok Made) = synced
  sync_flat_table f synced told = kept

  pub install_table : (f : Flattening) → P (drop_flat f.id table) → (told : Told) → P (install_outcome f table told).table
  install_table f ended (Ok Made) = ended
  install_table f ended (Err trouble.Fault) = ended
  install_table f ended told = kept

  pub done_table : (folder file : Name) (told : Told) → P (done_outcome folder file table told).table
  done_table folder file (Ok Made) = kept
  done_table folder file told = kept

  pub mend_meta_table : (file : Name) (told : Told) → P (mend_meta_outcome file table told).table
  mend_meta_table file (Ok Made) = kept
  mend_meta_table file (Ok (Old room)) = kept
  mend_meta_table file told = kept

  pub bury_table : (file : Name) (told : Told) → P (bury_outcome file table told).table
  bury_table file (Ok Made) = kept
  bury_table file (Ok Absent) = kept
  bury_table file (Ok NoFolder) = kept
  bury_table file told = kept

  pub mend_hold_table : (told : Told) → P (mend_hold_outcome table told).table
  mend_hold_table (Ok Made) = kept
  mend_hold_table (Ok (Old room)) = kept
  mend_hold_table told = kept
