-- What a status says of the trouble behind it.
use Rattle.std.proofs.Common.{◌≡◌, ◌≢◌, ◌∙◌, ◌≤◌, inl, inr, ℕ, Bool, true, false, List, [], ◌∷◌, Option, Result, Ok, Err, refl, sym, ap, arith}
use Rattle.std.specs.Prelude.{◌||◌, if◌then◌else◌}
use Rattle.plfs_types.specs.Counts.{HasRisen}
use Rattle.store_api.specs.declared.step.Answer.{Answer}
use Rattle.store_api.specs.declared.step.Answer.TheVariants.{Made, Names}
use Rattle.store_api.specs.declared.store.Trouble.{Trouble}
use Rattle.store_api.specs.declared.store.Trouble.TheVariants as store_trouble
use Rattle.store_api.specs.Acts.{Acts, Stored}
use Rattle.store_api.specs.Step.{Step}
use Rattle.mount_model.specs.Mounting.{IsMounted, list_step, mark_step, marks_step}
use Rattle.mount_model.specs.State.{State}
use Rattle.mount_model.specs.Failing.{FailsToMount}
use Rattle.mount_model.specs.declared.mount_trouble.MountTrouble.{MountTrouble}
use Rattle.mount_model.specs.declared.mount_trouble.MountTrouble.TheVariants as trouble
use Rattle.mount_model.specs.declared.stuck.Stuck.{Stuck}
use Rattle.mount_model.specs.declared.stuck.Stuck.TheVariants as stuck
use Rattle.trouble_laws.specs.Undamaged.{IsUndamaged}
use Rattle.script_lang.specs.declared.line.Line.{Line}
use Rattle.edge_io.specs.Sink.{Taking}
use Rattle.copy_core.specs.declared.copying.Copied.{Copied}
use Rattle.program_ends.specs.Mounting.{IsUnmounted}
use Rattle.program_ends.specs.Outcomes.{has_line, is_damage, is_fault, is_refusal, status_of}
use Rattle.program_ends.specs.Reported.{line_zero}
use Rattle.program_ends.specs.SoundTrees.{TellsSoundTree}
use Rattle.program_ends.specs.Unmounted.{IsUnmountedSaid}
use Rattle.program_ends.proofs.Facts.{fault_line_alone, unmounted_undamaged}
use Rattle.program_ends.specs.Outcomes.{is_broken_by}
use Rattle.put_program.specs.Putting.{PutEnd, end_of, put_status}

-- ---- the count of faults

acts_keep : (step : Step) (old new : Stored) (told : Result Answer Trouble) → Acts step old new told → old.faults ≤ new.faults
acts_keep step old new (Ok answer) made = omega (arith, made.faults)
acts_keep step old new (Err store_trouble.Fault) made = made.faults
acts_keep step old new (Err store_trouble.NoMemory) made = omega (arith, ap (λ (s : Stored). s.faults) made)

pub mounting_keeps : (times : Option (List ℕ)) (before : Stored) (start : State) → IsMounted 0 times before start → before.faults ≤ start.store.faults
mounting_keeps times before start m =
    let d = m.draws in
    let first = acts_keep marks_step before d.roomed d.tells.told d.tells.made in
    let second = acts_keep (list_step start.marks) d.roomed d.listed (Ok (Names d.names)) d.lists in
    let third = acts_keep (mark_step start.marks start.mount) d.listed start.store (Ok Made) d.marked in
    omega (arith, first, second, third)

pub risen_then : (a b c : ℕ) → HasRisen a b → b ≤ c → HasRisen a c
risen_then a b c (inl less) le = inl (omega (arith, le, less))
risen_then a b c (inr most) le = inr (omega (arith, le, most))

-- ---- a copying

pub ended_in_fault : (result : Result Copied Stuck) → is_broken_by is_fault (end_of result) ≡ true → result ≡ Err stuck.Fault
ended_in_fault (Ok copied) bad = absurd (cc)
ended_in_fault (Err stuck.Fault) bad = refl
ended_in_fault (Err (stuck.Damaged folder file place)) bad = absurd (cc)
ended_in_fault (Err (stuck.Refused why)) bad = absurd (cc)

pub ended_undamaged : (result : Result Copied Stuck) → IsUndamaged result → is_broken_by is_damage (end_of result) ≡ false
ended_undamaged (Ok copied) none = refl
ended_undamaged (Err stuck.Fault) none = refl
ended_undamaged (Err (stuck.Damaged folder file place)) none = absurd none
ended_undamaged (Err (stuck.Refused why)) none = refl

-- ---- lines

pub or_false : (b : Bool) → (b || false) ≡ false → b ≡ false
or_false true is = is
or_false false is = refl

pub or_true : (b : Bool) → b ≡ true → (b || false) ≡ true
or_true true is = refl
or_true false is = is

or_is : (b : Bool) → (b || false) ≡ true → b ≡ true
or_is true is = refl
or_is false is = is

four_is : (n : ℕ) (d f r : Bool) → n ≡ (if d then 7 else if f then 4 else if r then 1 else 0) → n ≡ 4 → f ≡ true
four_is n true f r is four = absurd (omega (arith, is, four))
four_is n false true r is four = refl
four_is n false false true is four = absurd (omega (arith, is, four))
four_is n false false false is four = absurd (omega (arith, is, four))

seven_is : (n : ℕ) (d f r : Bool) → n ≡ (if d then 7 else if f then 4 else if r then 1 else 0) → n ≡ 7 → d ≡ true
seven_is n true f r is seven = refl
seven_is n false true r is seven = absurd (omega (arith, is, seven))
seven_is n false false true is seven = absurd (omega (arith, is, seven))
seven_is n false false false is seven = absurd (omega (arith, is, seven))

four_lines : (n : ℕ) (lines : List Line) → n ≡ status_of lines → n ≡ 4 → has_line is_fault lines ≡ true
four_lines n lines is four = four_is n (has_line is_damage lines) (has_line is_fault lines) (has_line is_refusal lines) is four

seven_lines : (n : ℕ) (lines : List Line) → n ≡ status_of lines → n ≡ 7 → has_line is_damage lines ≡ true
seven_lines n lines is seven = seven_is n (has_line is_damage lines) (has_line is_fault lines) (has_line is_refusal lines) is seven

-- ---- what became of a put

whole_four : (n : ℕ) (b : Bool) → n ≡ (if b then 0 else 5) → n ≡ 4 → ⊥
whole_four n true is four = omega (arith, is, four)
whole_four n false is four = omega (arith, is, four)

whole_seven : (n : ℕ) (b : Bool) → n ≡ (if b then 0 else 5) → n ≡ 7 → ⊥
whole_seven n true is seven = omega (arith, is, seven)
whole_seven n false is seven = omega (arith, is, seven)

pub put_four : (n : ℕ) (ended : PutEnd) → n ≡ put_status ended → n ≡ 4 → is_broken_by is_fault ended ≡ true
put_four n (Ok copied) is four = absurd (whole_four n copied.is_whole is four)
put_four n (Err outcome) is four = or_is (is_fault outcome) (four_lines n (line_zero outcome ∷ []) is four)

pub put_seven : (n : ℕ) (ended : PutEnd) → is_broken_by is_damage ended ≡ false → n ≡ put_status ended → n ≡ 7 → ⊥
put_seven n (Ok copied) none is seven = whole_seven n copied.is_whole is seven
put_seven n (Err outcome) none is seven = (let bad : false ≡ true = sym none ∙ or_is (is_damage outcome) (seven_lines n (line_zero outcome ∷ []) is seven) in cc)

-- ---- a mounting that broke off

pub unmounted_four : (why : MountTrouble) (taking taking_after : Taking) (status : ℕ) (R : Type 0) → IsUnmountedSaid why taking taking_after status → (why ≡ trouble.Fault → R) → status ≡ 4 → R
unmounted_four why taking taking_after status R (inl (lines, (outcome, told, only), inl (is, printed))) cause four = fault_line_alone why outcome lines R told only cause (four_lines status lines is four)
unmounted_four why taking taking_after status R (inl (lines, broke, inr (is, cut))) cause four = absurd (omega (arith, is, four))
unmounted_four why taking taking_after status R (inr (is, same)) cause four = absurd (omega (arith, is, four))

-- over a store that told a sound tree it says nothing of damage
pub says_no_damage : (before after : Stored) (why : MountTrouble) → FailsToMount before why after → TellsSoundTree before → (lines : List Line) → IsUnmounted why lines → has_line is_damage lines ≡ false
says_no_damage before after why failed told lines broke = unmounted_undamaged before after why lines failed broke told

pub unmounted_seven : (before after : Stored) (why : MountTrouble) (taking taking_after : Taking) (status : ℕ) → FailsToMount before why after → IsUnmountedSaid why taking taking_after status → TellsSoundTree before → status ≢ 7
unmounted_seven before after why taking taking_after status failed (inl (lines, broke, inl (is, printed))) told seven =
    let bad : false ≡ true = sym (unmounted_undamaged before after why lines failed broke told) ∙ seven_lines status lines is seven in cc
unmounted_seven before after why taking taking_after status failed (inl (lines, broke, inr (is, cut))) told seven = omega (arith, is, seven)
unmounted_seven before after why taking taking_after status failed (inr (is, same)) told seven = omega (arith, is, seven)
