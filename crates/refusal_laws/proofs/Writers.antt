-- Why calls on a writer are refused.
use Rattle.std.proofs.Common.{◌≡◌, ◌⊎◌, ℕ, Bool, List, [], ◌∷◌, length, Some, None, Ok, Err, refl, sym, ◌∙◌, inl, inr, subst}
use Rattle.plfs_types.specs.declared.entries.Entry.{Entry}
use Rattle.container_layout.specs.Paths.{hostdir_of}
use Rattle.store_api.specs.declared.step.Answer.TheVariants.{Made, Names, NoRoom, Old}
use Rattle.store_api.specs.declared.store.Trouble.TheVariants.{Fault, NoMemory}
use Rattle.store_api.specs.Step.{list_folder}
use Rattle.store_laws.specs.Says.{ListTells}
use Rattle.store_laws.specs.Tells.{Tells}
use Rattle.store_laws.specs.There.{LacksRoom}
use Rattle.store_laws.proofs.Facts.{acts_told, create_told, list_tells, look_answered, make_folder_told, remove_told, sync_told, write_refused}
use Rattle.mount_model.specs.declared.reply.Refusal.{Refusal}
use Rattle.mount_model.specs.declared.reply.Refusal.TheVariants as refusal
use Rattle.mount_model.specs.declared.reply.Reply.TheVariants.{Refused}
use Rattle.mount_model.specs.declared.row.Row.{Row}
use Rattle.mount_model.specs.declared.row.Stage.{Stage}
use Rattle.mount_model.specs.declared.row.Stage.TheVariants as stage
use Rattle.mount_model.specs.Building.{MakesHostdir, MakesIndex, MakesLog, build_outcome, hostdir_step, index_step, log_step}
use Rattle.mount_model.specs.Flooring.{FloorOutcome, Floors, FloorsRow}
use Rattle.mount_model.specs.Flushing.{Flushes, FlushesRow, SyncsIndex, SyncsLog, flush_outcome, flush_step, sync_index_outcome, sync_index_step, sync_log_outcome, sync_log_step}
use Rattle.mount_model.specs.Leaving.{Exits, PutsMeta, exit_check, exit_outcome, exit_step, meta_file, put_meta_check, put_meta_outcome, put_meta_step}
use Rattle.mount_model.specs.Making.{MakesAct, OnWriter, Refuses, Told}
use Rattle.mount_model.specs.Paths.{Name, index_path, log_path, meta_path, metadata, open_path, truncs}
use Rattle.container_layout.specs.Paths.{openhosts}
use Rattle.mount_model.specs.State.{State, Table, timed}
use Rattle.mount_model.specs.Table.{is_live, may_close, only, writer_of}
use Rattle.mount_model.specs.Writing.{Writes, WritesAt, stamp_at, write_check, write_outcome, write_step}
use Rattle.mount_model.proofs.Facts.{is_held, match_cases}
use Rattle.mount_sound.specs.Ledger.{Ledger}
use Rattle.mount_sound.specs.Sound.{IsSoundFor}
use Rattle.refusal_laws.specs.Reasons.{HasNoWriter, HasWriterSo}
use Rattle.refusal_laws.proofs.Outcomes.{IsPlain, act_lacks, by_check, otherwise_refused, same_why}

-- ---- outcomes

build_plain : (to : Stage) (folder file : Name) (row : Row) (table : Table) → IsPlain (build_outcome to folder file row table)
build_plain to folder file row table (Ok Made) why e = absurd (cc)
build_plain to folder file row table (Ok (Old room)) why e = absurd (cc)
build_plain to folder file row table told why e = otherwise_refused folder file told why e

write_plain : (stamp : ℕ) (row : Row) (at len : ℕ) (table : Table) → IsPlain (write_outcome stamp row at len table)
write_plain stamp row at len table (Ok Made) why e = absurd (cc)
write_plain stamp row at len table told why e = otherwise_refused (hostdir_of row.host) (log_path row.host row.id).file told why e

flush_plain : (row : Row) (table : Table) → IsPlain (flush_outcome row table)
flush_plain row table (Ok Made) why e = absurd (cc)
flush_plain row table told why e = otherwise_refused (hostdir_of row.host) (index_path row.host row.id).file told why e

log_plain : (row : Row) (table : Table) → IsPlain (sync_log_outcome row table)
log_plain row table (Ok Made) why e = absurd (cc)
log_plain row table told why e = otherwise_refused (hostdir_of row.host) (log_path row.host row.id).file told why e

index_plain : (row : Row) (table : Table) → IsPlain (sync_index_outcome row table)
index_plain row table (Ok Made) why e = absurd (cc)
index_plain row table told why e = otherwise_refused (hostdir_of row.host) (index_path row.host row.id).file told why e

meta_plain : (row : Row) (table : Table) → IsPlain (put_meta_outcome row table)
meta_plain row table (Ok Made) why e = absurd (cc)
meta_plain row table (Ok (Old room)) why e = absurd (cc)
meta_plain row table (Err NoMemory) why e = absurd (cc)
meta_plain row table told why e = otherwise_refused metadata (meta_file row) told why e

exit_plain : (row : Row) (table : Table) → IsPlain (exit_outcome row table)
exit_plain row table (Ok Made) why e = absurd (cc)
exit_plain row table (Err Fault) why e = absurd (cc)
exit_plain row table told why e = otherwise_refused openhosts (open_path row.host row.id).file told why e

floor_lacks : (row : Row) (table after : Table) (told : Told) (why : Refusal) → FloorOutcome row table told (Refused why) after → told ≡ Ok NoRoom
floor_lacks row table after (Ok (Names names)) why (inl f) = absurd (cc)
floor_lacks row table after (Ok (Names names)) why (inr f) = absurd (cc)
floor_lacks row table after told why f = (otherwise_refused truncs [] told why f.0).0

-- ---- calls

module _ (issued : Ledger) (old new : State) (s : IsSoundFor issued old) (caller writer : ℕ) (why : Refusal) where
  -- the room of a row is there
  placed : (stages : Stage → Bool) (row : Row) → writer_of caller stages writer old.table.writers ≡ Some row → LacksRoom s.shape.tree row.room → ⊥
  placed stages row held lacks =
      let p = s.sound.placed writer row (is_held caller stages writer old.table.writers row held).found in
      let clash : Some p.0 ≡ None = sym p.1 ∙ lacks in
      cc

  -- there is no such writer, or the row decides
  on_row : (stages : Stage → Bool) (does : Row → Type 0) (R : Type 0) → OnWriter caller stages writer old (Refused why) new does → (HasNoWriter caller stages writer old why → R) → ((row : Row) → writer_of caller stages writer old.table.writers ≡ Some row → does row → R) → R
  on_row stages does R on none some = elim (match_cases (writer_of caller stages writer old.table.writers) (Refuses refusal.NotOpen old (Refused why) new) does on) as (λ _. R) [
    | inl (is, refused) ↦ none (same_why why refusal.NotOpen refused.0, is)
    | inr (row, is, made) ↦ some row is made
  ]

  pub floor_reason : Floors caller writer old (Refused why) new → HasNoWriter caller (only stage.Entered) writer old why
  floor_reason f = on_row (only stage.Entered) (λ row. FloorsRow row old (Refused why) new) (HasNoWriter caller (only stage.Entered) writer old why) f (λ none. none)
      (λ row is d.
      let told = floor_lacks row old.table new.table d.told why d.outcome in
      let t = acts_told (list_folder row.room truncs) old.store new.store s.shape.tree d.told s.shape.told d.made in
      absurd (placed (only stage.Entered) row is (look_answered (list_folder row.room truncs) s.shape.tree (ListTells s.shape.tree row.room truncs) (list_tells s.shape.tree row.room truncs) NoRoom t.0 (subst (λ x. Tells (list_folder row.room truncs) s.shape.tree x t.0) told t.2)).1))

  pub hostdir_reason : MakesHostdir caller writer old (Refused why) new → HasNoWriter caller (only stage.Floored) writer old why
  hostdir_reason f = on_row (only stage.Floored) (λ row. MakesAct (hostdir_step row) (build_outcome stage.Housed (hostdir_of row.host) [] row old.table) old (Refused why) new) (HasNoWriter caller (only stage.Floored) writer old why) f (λ none. none)
      (λ row is m. absurd (placed (only stage.Floored) row is (act_lacks (hostdir_step row) _ old new why s.shape.tree row.room s.shape.told (build_plain stage.Housed (hostdir_of row.host) [] row old.table)
      (λ after t. ((make_folder_told row.room (hostdir_of row.host) s.shape.tree (Ok NoRoom) after t).stays NoRoom refl (λ e. cc)).1) m).1))

  pub index_reason : MakesIndex caller writer old (Refused why) new → HasNoWriter caller (only stage.Housed) writer old why
  index_reason f = on_row (only stage.Housed) (λ row. MakesAct (index_step row) (build_outcome stage.Indexed (hostdir_of row.host) (index_path row.host row.id).file row old.table) old (Refused why) new) (HasNoWriter caller (only stage.Housed) writer old why) f (λ none. none)
      (λ row is m. absurd (placed (only stage.Housed) row is (act_lacks (index_step row) _ old new why s.shape.tree row.room s.shape.told (build_plain stage.Indexed (hostdir_of row.host) (index_path row.host row.id).file row old.table)
      (λ after t. ((create_told row.room (index_path row.host row.id) s.shape.tree (Ok NoRoom) after t).stays NoRoom refl (λ e. cc)).1) m).1))

  pub log_reason : MakesLog caller writer old (Refused why) new → HasNoWriter caller (only stage.Indexed) writer old why
  log_reason f = on_row (only stage.Indexed) (λ row. MakesAct (log_step row) (build_outcome stage.Open (hostdir_of row.host) (log_path row.host row.id).file row old.table) old (Refused why) new) (HasNoWriter caller (only stage.Indexed) writer old why) f (λ none. none)
      (λ row is m. absurd (placed (only stage.Indexed) row is (act_lacks (log_step row) _ old new why s.shape.tree row.room s.shape.told (build_plain stage.Open (hostdir_of row.host) (log_path row.host row.id).file row old.table)
      (λ after t. ((create_told row.room (log_path row.host row.id) s.shape.tree (Ok NoRoom) after t).stays NoRoom refl (λ e. cc)).1) m).1))

  pub write_reason : (at : ℕ) (bytes : List ℕ) → Writes caller writer at bytes old (Refused why) new → HasNoWriter caller (only stage.Open) writer old why ⊎ HasWriterSo caller (only stage.Open) writer old (λ row. write_check row at (length bytes)) why
  write_reason at bytes f = on_row (only stage.Open) _ _ f (λ none. inl none)
      (λ row is d. by_check (write_check row at (length bytes)) old new why (WritesAt row at bytes old (Refused why) new) (HasNoWriter caller (only stage.Open) writer old why ⊎ HasWriterSo caller (only stage.Open) writer old (λ r. write_check r at (length bytes)) why) d (λ some. inr (row, is, some))
      (λ none w. absurd (placed (only stage.Open) row is (act_lacks (write_step row bytes) (write_outcome (stamp_at w.time row) row at (length bytes) old.table) (timed w.times old) new why s.shape.tree row.room s.shape.told (write_plain (stamp_at w.time row) row at (length bytes) old.table)
      (λ after t. (write_refused row.room (log_path row.host row.id) row.stored bytes s.shape.tree NoRoom after t (λ e. cc)).1) w.makes).1)))

  pub flush_reason : Flushes caller writer old (Refused why) new → HasNoWriter caller (only stage.Open) writer old why
  flush_reason f = on_row (only stage.Open) (λ row. FlushesRow row row.pending.entries old (Refused why) new) (HasNoWriter caller (only stage.Open) writer old why) f (λ none. none) (λ row is d. absurd (flushes row is row.pending.entries d))
    where
      flushes : (row : Row) → writer_of caller (only stage.Open) writer old.table.writers ≡ Some row → (es : List Entry) → FlushesRow row es old (Refused why) new → ⊥
      flushes row is [] d = (cc)
      flushes row is (first ∷ rest) d = placed (only stage.Open) row is (act_lacks (flush_step row) (flush_outcome row old.table) old new why s.shape.tree row.room s.shape.told (flush_plain row old.table)
          (λ after t. (write_refused row.room (index_path row.host row.id) _ _ s.shape.tree NoRoom after t (λ e. cc)).1) d).1

  pub sync_log_reason : SyncsLog caller writer old (Refused why) new → HasNoWriter caller (only stage.Open) writer old why
  sync_log_reason f = on_row (only stage.Open) (λ row. MakesAct (sync_log_step row) (sync_log_outcome row old.table) old (Refused why) new) (HasNoWriter caller (only stage.Open) writer old why) f (λ none. none)
      (λ row is m. absurd (placed (only stage.Open) row is (act_lacks (sync_log_step row) (sync_log_outcome row old.table) old new why s.shape.tree row.room s.shape.told (log_plain row old.table)
      (λ after t. ((sync_told row.room (log_path row.host row.id) s.shape.tree (Ok NoRoom) after t).stays NoRoom refl (λ e. cc)).1) m).1))

  pub sync_index_reason : SyncsIndex caller writer old (Refused why) new → HasNoWriter caller (only stage.Open) writer old why
  sync_index_reason f = on_row (only stage.Open) (λ row. MakesAct (sync_index_step row) (sync_index_outcome row old.table) old (Refused why) new) (HasNoWriter caller (only stage.Open) writer old why) f (λ none. none)
      (λ row is m. absurd (placed (only stage.Open) row is (act_lacks (sync_index_step row) (sync_index_outcome row old.table) old new why s.shape.tree row.room s.shape.told (index_plain row old.table)
      (λ after t. ((sync_told row.room (index_path row.host row.id) s.shape.tree (Ok NoRoom) after t).stays NoRoom refl (λ e. cc)).1) m).1))

  pub meta_reason : PutsMeta caller writer old (Refused why) new → HasNoWriter caller may_close writer old why ⊎ HasWriterSo caller may_close writer old put_meta_check why
  meta_reason f = on_row may_close _ _ f (λ none. inl none)
      (λ row is d. by_check (put_meta_check row) old new why (MakesAct (put_meta_step row) (put_meta_outcome row old.table) old (Refused why) new) (HasNoWriter caller may_close writer old why ⊎ HasWriterSo caller may_close writer old put_meta_check why) d (λ some. inr (row, is, some))
      (λ none m. absurd (placed may_close row is (act_lacks (put_meta_step row) (put_meta_outcome row old.table) old new why s.shape.tree row.room s.shape.told (meta_plain row old.table)
      (λ after t. ((create_told row.room (meta_path row.end row.stored row.last row.host row.id) s.shape.tree (Ok NoRoom) after t).stays NoRoom refl (λ e. cc)).1) m).1)))

  pub exit_reason : Exits caller writer old (Refused why) new → HasNoWriter caller is_live writer old why ⊎ HasWriterSo caller is_live writer old exit_check why
  exit_reason f = on_row is_live _ _ f (λ none. inl none)
      (λ row is d. by_check (exit_check row) old new why (MakesAct (exit_step row) (exit_outcome row old.table) old (Refused why) new) (HasNoWriter caller is_live writer old why ⊎ HasWriterSo caller is_live writer old exit_check why) d (λ some. inr (row, is, some))
      (λ none m. absurd (placed is_live row is (act_lacks (exit_step row) (exit_outcome row old.table) old new why s.shape.tree row.room s.shape.told (exit_plain row old.table)
      (λ after t. ((remove_told row.room (open_path row.host row.id) s.shape.tree (Ok NoRoom) after t).stays NoRoom refl (λ e. cc)).1) m).1)))
