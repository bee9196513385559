-- From the lines of a play to what is shown of them.
use Rattle.std.proofs.Common.{ℕ, zero, suc, ◌≡◌, ◌≤◌, true, false, if◌then◌else◌, List, [], ◌∷◌, Option, Result, Ok, Err, IfOk, refl, ap, sym, subst, inl, inr, arith}
use Rattle.std.proofs.lemmas.List.Folds.{Any-from_list_any}
use Rattle.plfs_types.specs.Counts.{HasRisen}
use Rattle.store_api.specs.declared.store.Trouble.TheVariants.{Fault, NoMemory}
use Rattle.store_api.specs.declared.step.Answer.TheVariants.{Made, Names}
use Rattle.store_api.specs.Acts.{Stored, Acts}
use Rattle.store_api.specs.Step.{Step}
use Rattle.store_api.specs.declared.step.Answer.{Answer}
use Rattle.store_api.specs.declared.store.Trouble.{Trouble}
use Rattle.mount_model.specs.Mounting.{IsMounted, marks_step, list_step, mark_step}
use Rattle.mount_model.specs.State.{State}
use Rattle.script_lang.specs.declared.line.Line.{Line}
use Rattle.script_lang.specs.declared.line.Outcome.{Outcome}
use Rattle.script_lang.specs.declared.line.Outcome.TheVariants as of
use Rattle.report_text.specs.Text.{HaveText}
use Rattle.run_core.specs.Faults.{HasFault}
use Rattle.program_ends.specs.Outcomes.{has_line, is_fault}
use Rattle.plfs_program.specs.Showing.{behind_opening, is_reader}

-- ---- their text

later_text : (line : Line) (lines : List Line) → HaveText (line ∷ lines) → HaveText lines
later_text line lines have = λ k d lt. have (suc k) d (omega (arith, lt))

first_at : (line : Line) (lines : List Line) → HaveText (line ∷ lines) → HaveText (line ∷ [])
first_at line lines have = λ k d lt. at_first line lines have k d lt
  where
    at_first : (line : Line) (lines : List Line) → HaveText (line ∷ lines) → HaveText (line ∷ [])
    at_first line lines have zero d lt = have zero d (omega arith)
    at_first line lines have (suc k) d lt = absurd (omega (arith, lt))

-- what is shown of lines with a text has one
pub behind_text : (lines : List Line) → HaveText lines → HaveText (behind_opening lines)
behind_text [] have = have
behind_text (line ∷ lines) have = elim (is_reader line.outcome) as (λ b. HaveText (if b then lines else line ∷ [])) [
  | true ↦ later_text line lines have
  | false ↦ first_at line lines have
]

-- ---- the cause of a fault

acts_keep : (step : Step) (old new : Stored) (told : Result Answer Trouble) → Acts step old new told → old.faults ≤ new.faults
acts_keep step old new (Ok answer) made = omega (arith, made.faults)
acts_keep step old new (Err Fault) made = made.faults
acts_keep step old new (Err NoMemory) made = omega (arith, ap (λ (s : Stored). s.faults) made)

pub mounting_keeps : (times : Option (List ℕ)) (before : Stored) (start : State) → IsMounted 0 times before start → before.faults ≤ start.store.faults
mounting_keeps times before start m =
    let d = m.draws in
    let first = acts_keep marks_step before d.roomed d.tells.told d.tells.made in
    let second = acts_keep (list_step start.marks) d.roomed d.listed (Ok (Names d.names)) d.lists in
    let third = acts_keep (mark_step start.marks start.mount) d.listed start.store (Ok Made) d.marked in
    omega (arith, first, second, third)

pub risen_since : (a b c : ℕ) → a ≤ b → HasRisen b c → HasRisen a c
risen_since a b c le (inl less) = inl (omega (arith, le, less))
risen_since a b c le (inr most) = inr most

tells_fault : (outcome : Outcome) → is_fault outcome ≡ true → outcome ≡ of.Fault
tells_fault of.Fault is = refl
tells_fault (of.Listed names) is = cc
tells_fault (of.Opened writer) is = cc
tells_fault (of.Wrote at len stamp) is = cc
tells_fault (of.Synced landed) is = cc
tells_fault (of.Closed landed) is = cc
tells_fault (of.Reader size cut truncs) is = cc
tells_fault (of.Read at content) is = cc
tells_fault of.Same is = cc
tells_fault (of.Differs place) is = cc
tells_fault (of.Map pieces) is = cc
tells_fault of.ReaderClosed is = cc
tells_fault (of.Stat size stored shares truncs) is = cc
tells_fault (of.Truncated stamp) is = cc
tells_fault of.Renamed is = cc
tells_fault (of.Flattened flat pieces cut) is = cc
tells_fault (of.Recovered buried alive hold) is = cc
tells_fault of.Armed is = cc
tells_fault of.Stopped is = cc
tells_fault of.Gone is = cc
tells_fault (of.Refused why) is = cc
tells_fault (of.Damaged folder file place) is = cc

has_fault : (lines : List Line) → has_line is_fault lines ≡ true → HasFault lines
has_fault lines is = let (k, d, lt, same, bad) = Any-from_list_any (λ (line : Line). is_fault line.outcome) lines is in (k, d, lt, same, tells_fault _ bad)

-- where a line of a play tells of a fault, the store has failed since before the mounting
pub play_cause : {E : Type 0} (times : Option (List ℕ)) (before after : Stored) (start end : State) (result : Result (List Line) E) → IsMounted 0 times before start → after ≡ end.store
    → IfOk result (λ lines. HasFault lines → HasRisen start.store.faults end.store.faults)
    → IfOk result (λ lines. has_line is_fault lines ≡ true → HasRisen before.faults after.faults)
play_cause times before after start end (Ok lines) mounted left cause = λ bad.
    let R : Stored → Type 0 = λ s. HasRisen before.faults s.faults in
    subst R (sym left) (risen_since before.faults start.store.faults end.store.faults (mounting_keeps times before start mounted) (cause (has_fault lines bad)))
play_cause times before after start end (Err e) mounted left cause = tt
