-- What a sync of an index dropping told survives, where the log was synced before it.
use Rattle.std.proofs.Common.{◌≡◌, ℕ, ◌≤◌, List, take, Option, Some, Ok, Err, refl, ap, sym, ◌∙◌, inl, inr, subst, arith}
use Rattle.std.specs.Prelude.{slice_get}
use Rattle.std.proofs.lemmas.Bool.{cases_lt}
use Rattle.store_api.specs.declared.step.Answer.TheVariants.{Made}
use Rattle.store_api.specs.declared.store.Trouble.TheVariants as trouble
use Rattle.store_api.specs.declared.tree.Room.{Room}
use Rattle.store_api.specs.declared.tree.Tree.{Tree}
use Rattle.store_api.specs.Loss.{Loses}
use Rattle.mount_model.specs.declared.call.Ask.{Ask}
use Rattle.mount_model.specs.declared.call.Call.TheVariants.{SyncIndex}
use Rattle.mount_model.specs.declared.reply.Reply.TheVariants.{Synced}
use Rattle.mount_model.specs.declared.row.Row.{Row}
use Rattle.mount_model.specs.declared.row.Stage.TheVariants as stage
use Rattle.mount_model.specs.Flushing.{index_synced, sync_index_outcome, SyncsIndex}
use Rattle.mount_model.specs.History.{Event, told_tree_after}
use Rattle.mount_model.specs.Making.{Told}
use Rattle.mount_model.specs.State.{State, Table}
use Rattle.mount_model.specs.Step.{Answers, IsStep}
use Rattle.mount_model.specs.Table.{row_of, only, writer_of, with_row}
use Rattle.mount_model.proofs.Facts.{is_held, match_cases, step_cases, stop_replies, row_of_id, row_of-with_row}
use Rattle.mount_sound.specs.Entries.{logged}
use Rattle.mount_sound.specs.Issued.{issued_after}
use Rattle.mount_sound.specs.Kept.{IsKept}
use Rattle.mount_sound.specs.Ledger.{entries_in, Ledger}
use Rattle.mount_sound.specs.Owed.{May, IsLawful}
use Rattle.mount_sound.specs.Sound.{IsSoundFor}
use Rattle.mount_sound.specs.There.{landed_in}
use Rattle.mount_sound.proofs.Facts.{step_keeps}
use Rattle.mount_sound.specs.Keeping.{safe_of, kept_in}
use Rattle.mount_losses.proofs.Losses.{HasIndex, has_index, least_safe_of, marked_kept}
use Rattle.mount_losses.proofs.Surviving.{kept_survive}

-- ---- what the table is after it

-- the mark of the index dropping is what has landed, and that is the number told
record IsMarked (row : Row) (n : ℕ) (old new : Table) : Type 0 where
  number : n ≡ row.landed
  after : new ≡ record old { writers = with_row (index_synced row) old.writers }

synced_number : (n m : ℕ) → Synced n ≡ Synced m → n ≡ m
synced_number n m e = cc

outcome_marks : (row : Row) (n : ℕ) (table : Table) (told : Told) → Synced n ≡ (sync_index_outcome row table told).reply → IsMarked row n table (sync_index_outcome row table told).table
outcome_marks row n table (Ok Made) e = record { number = synced_number n row.landed e; after = refl }
outcome_marks row n table (Err trouble.Fault) e = absurd (cc)
outcome_marks row n table (Err trouble.NoMemory) e = absurd (cc)
outcome_marks row n table told e = absurd (cc)

one_row : (a b : Row) (o : Option Row) → o ≡ Some a → o ≡ Some b → a ≡ b
one_row a b o p q = cc

answer_marks : (caller writer n : ℕ) (row : Row) (old new : State) → row_of writer old.table.writers ≡ Some row → SyncsIndex caller writer old (Synced n) new → IsMarked row n old.table new.table
answer_marks caller writer n row old new there a = elim (match_cases (writer_of caller (only stage.Open) writer old.table.writers) _ _ a) as (λ _. IsMarked row n old.table new.table) [
  | inl refused ↦ absurd (let wrong = refused.1.0 in cc)
  | inr (own, is, makes) ↦
      let same : own ≡ row = one_row own row (row_of writer old.table.writers) (is_held caller (only stage.Open) writer old.table.writers own is).found there in
      let m : IsMarked own n old.table (sync_index_outcome own old.table makes.told).table = outcome_marks own n old.table makes.told makes.answered in
      let after : IsMarked own n old.table new.table = subst (IsMarked own n old.table) (sym (ap (λ (s : State). s.table) makes.after)) m in
      subst (λ r. IsMarked r n old.table new.table) same after
]

step_marks : (caller writer n : ℕ) (ask : Ask) (row : Row) (old new : State) → row_of writer old.table.writers ≡ Some row → ask.call ≡ SyncIndex writer → IsStep old caller ask (Synced n) new → IsMarked row n old.table new.table
step_marks caller writer n ask row old new there is step = step_cases old caller ask (Synced n) new (IsMarked row n old.table new.table) step
    (λ whole a. answer_marks caller writer n row old new there (subst (λ c. Answers old caller c (Synced n) new) is a))
    (λ k some x. absurd (elim (stop_replies old caller k ask.call (Synced n) new x) [ inl stopped ↦ cc | inr none ↦ cc ]))

-- ---- a loss after it

-- Where the log was synced to its landed entries, a sync of its index dropping tells a number that every later loss leaves.
pub sync_survives : (l : Ledger) (start next : State) (caller writer n : ℕ) (ask : Ask) (row : Row) → IsSoundFor l start → row_of writer start.table.writers ≡ Some row → logged (take row.landed (entries_in (l row.room writer))) ≤ row.log_mark
    → ask.call ≡ SyncIndex writer → May start caller ask → IsStep start caller ask (Synced n) next → (later : List Event) → IsLawful next later → (after lost : Tree) → told_tree_after next later ≡ Some after → Loses after lost
    → (left : Room) → slice_get lost.rooms row.room ≡ Some left → n ≤ landed_in left row.host writer
sync_survives l start next caller writer n ask row sound there synced is may step later legal after lost now loses left here = elim (cases_lt 0 n) as (λ _. n ≤ landed_in left row.host writer) [
  | inl some ↦
      let m : IsMarked row n start.table next.table = step_marks caller writer n ask row start next there is step in
      let own : row.id ≡ writer = row_of_id writer start.table.writers row there in
      let s : IsSoundFor l next = subst (λ i. IsSoundFor i next) (ap (λ c. issued_after l start c (Synced n)) is) (step_keeps l start next caller ask (Synced n) may step sound) in
      let stands : row_of row.id start.table.writers ≡ Some row = ap (λ w. row_of w start.table.writers) own ∙ there in
      let e : row_of writer next.table.writers ≡ Some (index_synced row) = ap (λ (t : Table). row_of writer t.writers) m.after ∙ ap (λ w. row_of w (with_row (index_synced row) start.table.writers)) (sym own) ∙ row_of-with_row (index_synced row) start.table.writers row stands in
      let place = s.sound.placed writer (index_synced row) e in
      let k : IsKept place.0 (index_synced row) (l row.room writer) = (s.sound.rooms row.room place.0 place.1).kept writer (index_synced row) e refl in
      let i : HasIndex place.0 row.host writer row.landed = has_index l next s writer (index_synced row) place.0 e place.1 (omega (arith, m.number, some)) in
      let safe : n ≤ safe_of (index_synced row) (l row.room writer) = omega (arith, m.number, least_safe_of (index_synced row) (l row.room writer) k.numbers.landed synced) in
      let kept : safe_of (index_synced row) (l row.room writer) ≤ kept_in place.0 row.host writer = marked_kept l next s writer (index_synced row) place.0 e place.1 in
      omega (arith, safe, kept, kept_survive l next later legal s s.shape.tree after lost s.shape.told now loses row.room place.0 left place.1 here row.host writer i.bytes i.item)
  | inr none ↦ omega (arith, none)
]
