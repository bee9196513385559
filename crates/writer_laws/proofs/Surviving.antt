-- The entries that a sync told survive.
use Rattle.std.proofs.Common.{◌≡◌, ℕ, ◌≤◌, List, take, Option, Some, refl, ap, sym, ◌∙◌, inl, inr, arith}
use Rattle.std.specs.Prelude.{Ok, slice_get}
use Rattle.std.proofs.lemmas.Bool.{cases_lt}
use Rattle.store_api.specs.declared.tree.Room.{Room}
use Rattle.store_api.specs.declared.tree.Tree.{Tree}
use Rattle.store_api.specs.Loss.{Loses}
use Rattle.mount_model.specs.declared.row.Row.{Row}
use Rattle.mount_model.specs.Table.{row_of}
use Rattle.mount_model.specs.State.{State}
use Rattle.mount_model.specs.History.{Event, state_after, told_tree_after}
use Rattle.mount_sound.specs.Entries.{logged}
use Rattle.mount_sound.specs.Ledger.{Ledger, entries_in}
use Rattle.mount_sound.specs.Issued.{issued}
use Rattle.mount_sound.specs.Kept.{IsKept}
use Rattle.mount_sound.specs.Sound.{IsSoundFor}
use Rattle.mount_sound.specs.There.{landed_in}
use Rattle.mount_sound.proofs.Facts.{logged_take, history_keeps}
use Rattle.mount_losses.proofs.Facts.{least_safe_of, has_index, marked_kept, kept_survive, lost_told}
use Rattle.mount_sound.specs.Keeping.{safe_of, kept_in}
use Rattle.mount_sound.specs.Owed.{IsLawful}
use Rattle.writer_flow.specs.declared.handle.WriterHandle.{WriterHandle}
use Rattle.writer_flow.specs.declared.handle.WriterOut.{WriterOut}
use Rattle.writer_flow.specs.Syncing.{sync_program}
use Rattle.mount_model.specs.Running.{Runs}
use Rattle.writer_laws.specs.Counting.{entry_count}
use Rattle.writer_laws.specs.Knowing.{Knows, IsSynced}
use Rattle.writer_laws.specs.Surviving.{Survives}
use Rattle.writer_laws.proofs.Machines.{sync_ends}

one_row : (a b : Row) (o : Option Row) → o ≡ Some a → o ≡ Some b → a ≡ b
one_row a b o p q = cc

-- what the marks of a row tell has landed in every tree that a later loss leaves
marks_survive : (l : Ledger) (start : State) (events : List Event) → IsLawful start events → IsSoundFor l start → (after lost : Tree) → told_tree_after start events ≡ Some after → Loses after lost
    → (writer n : ℕ) (row : Row) → row_of writer start.table.writers ≡ Some row → n ≤ row.index_mark → row.log_mark ≡ row.stored → (left : Room) → slice_get lost.rooms row.room ≡ Some left → n ≤ landed_in left row.host writer
marks_survive l start events legal s after lost now loses writer n row there marked synced left here = elim (cases_lt 0 n) as (λ _. n ≤ landed_in left row.host writer) [
  | inl some ↦
      let place = s.sound.placed writer row there in
      let k : IsKept place.0 row (l row.room writer) = (s.sound.rooms row.room place.0 place.1).kept writer row there refl in
      let i = has_index l start s writer row place.0 there place.1 (omega (arith, some, marked, k.numbers.index_mark)) in
      let all : logged (take row.index_mark (entries_in (l row.room writer))) ≤ row.log_mark = omega (arith, logged_take row.index_mark (entries_in (l row.room writer)), k.numbers.stored, synced) in
      let safe : row.index_mark ≤ safe_of row (l row.room writer) = least_safe_of row (l row.room writer) (omega (arith, k.numbers.index_mark, k.numbers.landed)) all in
      let kept : safe_of row (l row.room writer) ≤ kept_in place.0 row.host writer = marked_kept l start s writer row place.0 there place.1 in
      omega (arith, marked, safe, kept, kept_survive l start events legal s s.shape.tree after lost s.shape.told now loses row.room place.0 left place.1 here row.host writer i.bytes i.item)
  | inr none ↦ omega (arith, none)
]

pub sync_survives : (caller : ℕ) (handle : WriterHandle) (row : Row) (before : Ledger) (start : State) (during later : List Event) (out : WriterOut) (n : ℕ) → Knows caller handle row start → IsSoundFor before start → IsLawful start during → Runs caller (sync_program handle) during out → out.result ≡ Ok n → IsLawful (state_after start during) later
    → (after lost : Tree) → told_tree_after (state_after start during) later ≡ Some after → Loses after lost → Survives caller handle.writer n (issued (issued before start during) (state_after start during) later) (state_after start during) after lost
sync_survives caller handle row before start during later out n k sound l runs ok legal after lost now loses =
    let mid : State = state_after start during in
    let wrote : Ledger = issued before start during in
    let y : IsSynced caller handle (entry_count row) out mid = sync_ends caller handle row start during out k l runs in
    let s : IsSoundFor wrote mid = history_keeps before start during l sound in
    let then : IsSoundFor (issued wrote mid later) (state_after mid later) = history_keeps wrote mid later legal s in
    let marks = y.marked n ok in
    record {
      left = lost_told (issued wrote mid later) (state_after mid later) then after lost now loses;
      has = λ own left has here.
          let same : y.row ≡ own = one_row y.row own (row_of handle.writer mid.table.writers) (ap (λ w. row_of w mid.table.writers) (sym y.same) ∙ y.knows.has.there) has.there in
          marks_survive wrote mid later legal s after lost now loses handle.writer n own has.there
          (omega (arith, marks.0, ap (λ (r : Row). r.index_mark) same)) (sym (ap (λ (r : Row). r.log_mark) same) ∙ marks.1 ∙ ap (λ (r : Row). r.stored) same) left here;
    }
