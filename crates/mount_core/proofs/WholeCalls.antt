-- A call whose act has no bytes makes the whole act, or nothing.
use Rattle.std.proofs.Common.{◌≡◌, ℕ, ◌<◌, List, length, Option, Some, None, refl, sym, subst, ◌∙◌, inl, inr, arith}
use Rattle.std.specs.Prelude.{IfSome, option_and_then, slice_get}
use Rattle.std.proofs.lemmas.Option.{slice_get_cases}
use Rattle.store_api.specs.Step.{Step, create, remove}
use Rattle.mount_model.specs.declared.row.Row.{Row}
use Rattle.mount_model.specs.declared.reply.Refusal.{Refusal}
use Rattle.mount_model.specs.Table.{writer_of}
use Rattle.mount_model.specs.Paths.{Name, metadata, open_path}
use Rattle.container_layout.specs.Paths.{openhosts}
use Rattle.mount_model.specs.Acting.{unless}
use Rattle.mount_model.specs.Leaving.{put_meta_check, meta_file, exit_check}
use Rattle.mount_model.specs.State.{State}
use Rattle.mount_model.specs.Making.{Told}
use Rattle.mount_model.specs.Stopping.{part_of, part_made}
use Rattle.mount_table.specs.declared.stages.Stages.{Stages}
use Rattle.mount_table.specs.Stages.{allowed}
use Rattle.mount_core.specs.declared.parting.WholeCall.{WholeCall}
use Rattle.mount_core.specs.declared.parting.WholeCall.TheVariants.{Floor, Hostdir, Index, Log, SyncLog, SyncIndex, Meta, Exit}
use Rattle.mount_core.specs.Breaking.{BreaksOff, all_or_none}
use Rattle.mount_core.proofs.Settled.{of_row}
use Rattle.mount_core.specs.WholeCalls.{call_of, stages_of, row_act}

-- what is made of a call on the writer that was found at this place
pub part_at : (part : Step → Option Step) (act : Row → Option Step) (rows : List Row) (place : ℕ) (found : Option Row) (old : State) (told : Told) (new : State) → place < length rows → slice_get rows place ≡ found
    → IfSome (slice_get rows place) (λ row. BreaksOff (option_and_then part (act row)) old told new) → BreaksOff (option_and_then part (option_and_then act found)) old told new
part_at part act rows place found old told new within same b = elim (slice_get_cases rows place).1 [
  | inl there ↦
      let is = there.2 in
      subst (λ (o : Option Row). BreaksOff (option_and_then part (option_and_then act o)) old told new) (sym is ∙ same)
      (of_row (slice_get rows place) there.0 (λ row. BreaksOff (option_and_then part (act row)) old told new) is b)
  | inr past ↦ absurd (let le = past.0 in omega arith)
]

-- the act of each row is made whole or not at all
of_rows : (k : ℕ) (act : Row → Option Step) → ((row : Row) → option_and_then (all_or_none k) (act row) ≡ option_and_then (part_of k) (act row)) → (found : Option Row)
    → option_and_then (all_or_none k) (option_and_then act found) ≡ option_and_then (part_of k) (option_and_then act found)
of_rows k act same None = refl
of_rows k act same (Some row) = same row

of_create : (k room : ℕ) (folder file : Name) (why : Option Refusal) → option_and_then (all_or_none k) (unless why (create room folder file)) ≡ option_and_then (part_of k) (unless why (create room folder file))
of_create k room folder file None = refl
of_create k room folder file (Some why) = refl

of_remove : (k room : ℕ) (folder file : Name) (why : Option Refusal) → option_and_then (all_or_none k) (unless why (remove room folder file)) ≡ option_and_then (part_of k) (unless why (remove room folder file))
of_remove k room folder file None = refl
of_remove k room folder file (Some why) = refl

module _ (k caller writer : ℕ) (old : State) where
  abbrev found : WholeCall → Option Row
  found call = writer_of caller (allowed (stages_of call)) writer old.table.writers

  whole : (call : WholeCall) → option_and_then (all_or_none k) (option_and_then (row_act call) (found call)) ≡ part_made k 0 old caller (call_of call writer)
  whole Floor = of_rows k (row_act Floor) (λ row. refl) (found Floor)
  whole Hostdir = of_rows k (row_act Hostdir) (λ row. refl) (found Hostdir)
  whole Index = of_rows k (row_act Index) (λ row. refl) (found Index)
  whole Log = of_rows k (row_act Log) (λ row. refl) (found Log)
  whole SyncLog = of_rows k (row_act SyncLog) (λ row. refl) (found SyncLog)
  whole SyncIndex = of_rows k (row_act SyncIndex) (λ row. refl) (found SyncIndex)
  whole Meta = of_rows k (row_act Meta) (λ row. of_create k row.room metadata (meta_file row) (put_meta_check row)) (found Meta)
  whole Exit = of_rows k (row_act Exit) (λ row. of_remove k row.room openhosts (open_path row.host row.id).file (exit_check row)) (found Exit)

  -- the part of a call on the writer that was found, or wasn't
  pub part_is : (call : WholeCall) (stages : Stages) (told : Told) (new : State) → stages ≡ stages_of call → BreaksOff (option_and_then (all_or_none k) (option_and_then (row_act call) (writer_of caller (allowed stages) writer old.table.writers))) old told new → BreaksOff (part_made k 0 old caller (call_of call writer)) old told new
  part_is call stages told new are b =
      subst (λ (part : Option Step). BreaksOff part old told new) (whole call)
      (subst (λ (s : Stages). BreaksOff (option_and_then (all_or_none k) (option_and_then (row_act call) (writer_of caller (allowed s) writer old.table.writers))) old told new) are b)
