-- What the status of an export says of the troubles behind it.
use Rattle.std.proofs.Common.{◌≡◌, ◌≢◌, ◌⊎◌, ◌∙◌, ◌≤◌, inl, inr, ℕ, Bool, true, false, max, List, [], ◌∷◌, Option, Some, Ok, Err, Result, refl, sym, ap, subst, arith}
use Rattle.std.specs.Prelude.{if◌then◌else◌}
use Rattle.std.proofs.lemmas.Bool.{cases_lt}
use Rattle.plfs_types.specs.Counts.{HasRisen}
use Rattle.edge_io.specs.Sink.{Taking}
use Rattle.store_api.specs.declared.step.Answer.{Answer}
use Rattle.store_api.specs.declared.step.Answer.TheVariants.{Made, Names}
use Rattle.store_api.specs.declared.store.Trouble.{Trouble as StoreTrouble}
use Rattle.store_api.specs.declared.store.Trouble.TheVariants as store_trouble
use Rattle.store_api.specs.Acts.{Acts, Stored}
use Rattle.store_api.specs.Step.{Step}
use Rattle.mount_model.specs.Mounting.{IsMounted, list_step, mark_step, marks_step}
use Rattle.mount_model.specs.State.{State}
use Rattle.mount_model.specs.Failing.{FailsToMount}
use Rattle.mount_model.specs.declared.mount_trouble.MountTrouble.{MountTrouble}
use Rattle.mount_model.specs.declared.mount_trouble.MountTrouble.TheVariants as mounting
use Rattle.mount_model.proofs.Facts.{step_place}
use Rattle.mount_model.specs.History.{Event, state_after}
use Rattle.mount_sound.specs.Owed.{IsLawful}
use Rattle.mount_core.proofs.Mounts.{fault_has_cause}
use Rattle.mount_model.specs.declared.stuck.Stuck.{Stuck as Trouble}
use Rattle.mount_model.specs.declared.stuck.Stuck.TheVariants as trouble
use Rattle.trouble_laws.specs.Undamaged.{IsNoDamage}
use Rattle.actor_core.specs.Names.{names_program}
use Rattle.script_lang.specs.declared.line.Line.{Line}
use Rattle.run_core.proofs.Facts.{risen_before}
use Rattle.program_ends.specs.Ends.{Ends}
use Rattle.program_ends.specs.Mounting.{IsUnmounted}
use Rattle.program_ends.specs.Outcomes.{has_line, is_damage, is_fault, is_refusal}
use Rattle.program_ends.specs.Reported.{IsReported}
use Rattle.program_ends.specs.SoundTrees.{TellsSoundTree}
use Rattle.program_ends.specs.Unmounted.{IsUnmountedSaid}
use Rattle.program_ends.proofs.Facts.{fault_line_alone, unmounted_undamaged}
use Rattle.export_program.specs.declared.filling.Filled.{Filled}
use Rattle.export_program.specs.declared.filling.Filled.TheVariants as filled
use Rattle.export_program.specs.Course.{ExportCourse, exported, unmounted}
use Rattle.export_program.specs.Looking.{HasOnlyLooked}
use Rattle.export_program.specs.Passing.{At, HavePassed, Passes, PassesFile, SaysFilled, WritesAll, at}
use Rattle.export_program.specs.Passing as passing
use Rattle.export_program.specs.Shelf.{Deed}
use Rattle.export_program.specs.Telling.{filled_status, stuck_status, stuck_text}
use Rattle.export_program.specs.Troubles.{IsTrueTrouble}
use Rattle.export_program.proofs.Leading.{have_lead, makes_lead, passes_lead}
use Rattle.export_program.proofs.Looks.{names_look}
use Rattle.export_program.proofs.Troubles.{looked_not_fewer}

abbrev Rose : State → State → Type 0
Rose start end = HasRisen start.store.faults end.store.faults

risen_then : (a b c : ℕ) → HasRisen a b → b ≤ c → HasRisen a c
risen_then a b c (inl less) le = inl (omega (arith, le, less))
risen_then a b c (inr most) le = inr (omega (arith, le, most))

-- ---- the mounting

acts_keep : (step : Step) (old new : Stored) (told : Result Answer StoreTrouble) → Acts step old new told → old.faults ≤ new.faults
acts_keep step old new (Ok answer) made = omega (arith, made.faults)
acts_keep step old new (Err store_trouble.Fault) made = made.faults
acts_keep step old new (Err store_trouble.NoMemory) made = omega (arith, ap (λ (s : Stored). s.faults) made)

mounting_keeps : (times : Option (List ℕ)) (before : Stored) (start : State) → IsMounted 0 times before start → before.faults ≤ start.store.faults
mounting_keeps times before start m =
    let d = m.draws in
    let first = acts_keep marks_step before d.roomed d.tells.told d.tells.made in
    let second = acts_keep (list_step start.marks) d.roomed d.listed (Ok (Names d.names)) d.lists in
    let third = acts_keep (mark_step start.marks start.mount) d.listed start.store (Ok Made) d.marked in
    omega (arith, first, second, third)

four_is : (n : ℕ) (d f r : Bool) → n ≡ (if d then 7 else if f then 4 else if r then 1 else 0) → n ≡ 4 → f ≡ true
four_is n true f r is four = absurd (omega (arith, is, four))
four_is n false true r is four = refl
four_is n false false true is four = absurd (omega (arith, is, four))
four_is n false false false is four = absurd (omega (arith, is, four))

seven_is : (n : ℕ) (d f r : Bool) → n ≡ (if d then 7 else if f then 4 else if r then 1 else 0) → n ≡ 7 → d ≡ true
seven_is n true f r is seven = refl
seven_is n false true r is seven = absurd (omega (arith, is, seven))
seven_is n false false true is seven = absurd (omega (arith, is, seven))
seven_is n false false false is seven = absurd (omega (arith, is, seven))

unmounted_four : (why : MountTrouble) (taking taking_after : Taking) (status : ℕ) (R : Type 0) → IsUnmountedSaid why taking taking_after status → (why ≡ mounting.Fault → R) → status ≡ 4 → R
unmounted_four why taking taking_after status R (inl (lines, (outcome, told, only), inl (is, printed))) cause four = fault_line_alone why outcome lines R told only cause (four_is status (has_line is_damage lines) (has_line is_fault lines) (has_line is_refusal lines) is four)
unmounted_four why taking taking_after status R (inl (lines, broke, inr (is, cut))) cause four = absurd (omega (arith, is, four))
unmounted_four why taking taking_after status R (inr (is, same)) cause four = absurd (omega (arith, is, four))

-- over a store that told a sound tree it says nothing of damage
pub says_no_damage : (before after : Stored) (why : MountTrouble) → FailsToMount before why after → TellsSoundTree before → (lines : List Line) → IsUnmounted why lines → has_line is_damage lines ≡ false
says_no_damage before after why failed told lines broke = unmounted_undamaged before after why lines failed broke told

unmounted_seven : (before after : Stored) (why : MountTrouble) (taking taking_after : Taking) (status : ℕ) → FailsToMount before why after → IsUnmountedSaid why taking taking_after status → TellsSoundTree before → status ≢ 7
unmounted_seven before after why taking taking_after status failed (inl (lines, broke, inl (is, printed))) told seven =
    let bad : false ≡ true = sym (unmounted_undamaged before after why lines failed broke told) ∙ seven_is status (has_line is_damage lines) (has_line is_fault lines) (has_line is_refusal lines) is seven in cc
unmounted_seven before after why taking taking_after status failed (inl (lines, broke, inr (is, cut))) told seven = omega (arith, is, seven)
unmounted_seven before after why taking taking_after status failed (inr (is, same)) told seven = omega (arith, is, seven)

-- ---- one trouble

stuck_four : (n : ℕ) (why : Trouble) → n ≡ stuck_status why → n ≡ 4 → why ≡ trouble.Fault
stuck_four n trouble.Fault is four = refl
stuck_four n (trouble.Damaged folder file place) is four = (let seven : n ≡ 7 = is in absurd (omega (arith, seven, four)))
stuck_four n (trouble.Refused why) is four = (let one : n ≡ 1 = is in absurd (omega (arith, one, four)))

stuck_seven : (n : ℕ) (why : Trouble) → IsNoDamage why → n ≡ stuck_status why → n ≢ 7
stuck_seven n trouble.Fault none is seven = (let four : n ≡ 4 = is in omega (arith, four, seven))
stuck_seven n (trouble.Damaged folder file place) none is seven = none
stuck_seven n (trouble.Refused why) none is seven = (let one : n ≡ 1 = is in omega (arith, one, seven))

decided_is : (text : List ℕ) (decided : ℕ) (taking taking_after : Taking) (status k : ℕ) → ((n : ℕ) → n ≡ k → n ≡ 6 → ⊥) → ((n : ℕ) → n ≡ k → n ≡ 3 → ⊥) → IsReported text decided taking taking_after status → status ≡ k → status ≡ decided
decided_is text decided taking taking_after status k six three (inl (is, printed)) same = is
decided_is text decided taking taking_after status k six three (inr (inl (is, cut))) same = absurd (six status same is)
decided_is text decided taking taking_after status k six three (inr (inr (is, untold))) same = absurd (three status same is)

said_is : (name : List ℕ) (told : Filled) (taking taking_after : Taking) (status k : ℕ) (ends : Bool) → ((n : ℕ) → n ≡ k → n ≡ 6 → ⊥) → ((n : ℕ) → n ≡ k → n ≡ 3 → ⊥) → SaysFilled name told taking taking_after status ends → status ≡ k → status ≡ filled_status told
said_is name told taking taking_after status k ends six three (passing.said printed is last) same = is
said_is name told taking taking_after status k ends six three (passing.cut_off cut is last) same = absurd (six status same is)
said_is name told taking taking_after status k ends six three (passing.starved untold is last) same = absurd (three status same is)

-- ---- one file

filled_four : (n : ℕ) (told : Filled) (start end : State) → ((why : Trouble) → told ≡ filled.Stuck why → IsTrueTrouble start why end) → n ≡ filled_status told → n ≡ 4 → Rose start end
filled_four n (filled.Whole size) start end truly is four = absurd (omega (arith, is, four))
filled_four n filled.Exists start end truly is four = absurd (omega (arith, is, four))
filled_four n (filled.Stuck why) start end truly is four = (truly why refl).cause (stuck_four n why is four)
filled_four n filled.Failed start end truly is four = absurd (omega (arith, is, four))

filled_seven : (n : ℕ) (told : Filled) (start end : State) → TellsSoundTree start.opened → ((why : Trouble) → told ≡ filled.Stuck why → IsTrueTrouble start why end) → n ≡ filled_status told → n ≢ 7
filled_seven n (filled.Whole size) start end sound truly is seven = omega (arith, is, seven)
filled_seven n filled.Exists start end sound truly is seven = omega (arith, is, seven)
filled_seven n (filled.Stuck why) start end sound truly is seven = stuck_seven n why ((truly why refl).undamaged sound) is seven
filled_seven n filled.Failed start end sound truly is seven = omega (arith, is, seven)

file_four : (name : List ℕ) (old new : At) (status : ℕ) (ends : Bool) → PassesFile name old new status ends → status ≡ 4 → Rose old.state new.state
file_four name old new status ends (passing.fills told f truly says) four =
    filled_four status told old.state new.state truly (said_is name told old.taking new.taking status 4 ends (λ n a b. omega (arith, a, b)) (λ n a b. omega (arith, a, b)) says four) four
file_four name old new status ends (passing.broke_off begins untold is last) four = absurd (omega (arith, is, four))

file_seven : (name : List ℕ) (old new : At) (status : ℕ) (ends : Bool) → TellsSoundTree old.state.opened → PassesFile name old new status ends → status ≢ 7
file_seven name old new status ends sound (passing.fills told f truly says) seven =
    filled_seven status told old.state new.state sound truly (said_is name told old.taking new.taking status 7 ends (λ n a b. omega (arith, a, b)) (λ n a b. omega (arith, a, b)) says seven) seven
file_seven name old new status ends sound (passing.broke_off begins untold is last) seven = omega (arith, is, seven)

pass_four : (name : List ℕ) (old new : At) (status : ℕ) (ends : Bool) → Passes name old new status ends → status ≡ 4 → Rose old.state new.state
pass_four name old new status ends (passing.passes logical f) four = file_four name old new status ends f four
pass_four name old new status ends (passing.none other same is last) four = absurd (omega (arith, is, four))

pass_seven : (name : List ℕ) (old new : At) (status : ℕ) (ends : Bool) → TellsSoundTree old.state.opened → Passes name old new status ends → status ≢ 7
pass_seven name old new status ends sound (passing.passes logical f) seven = file_seven name old new status ends sound f seven
pass_seven name old new status ends sound (passing.none other same is last) seven = omega (arith, is, seven)

-- ---- all files

either_is : (a b n k : ℕ) → n ≡ max a b → n ≡ k → (a ≡ k) ⊎ (b ≡ k)
either_is a b n k is same = elim (cases_lt a b) as (λ _. (a ≡ k) ⊎ (b ≡ k)) [
  | inl less ↦ inr (omega (arith, is, same, less))
  | inr le ↦ inl (omega (arith, is, same, le))
]

-- no call changes what was mounted
still_opened : (start end : State) → HasOnlyLooked start end → end.opened ≡ start.opened
still_opened start end l = sym (ap (λ (s : State). s.opened) l.made.ends) ∙ opened_after start l.events l.made.lawful
  where
    opened_after : (s : State) (events : List Event) → IsLawful s events → (state_after s events).opened ≡ s.opened
    opened_after s [] lawful = refl
    opened_after s (e ∷ events) lawful = opened_after e.after events lawful.2 ∙ (step_place s e.after e.caller e.ask e.reply lawful.1).opened

sound_on : (start end : State) → HasOnlyLooked start end → TellsSoundTree start.opened → TellsSoundTree end.opened
sound_on start end looked sound = subst (λ (s : Stored). TellsSoundTree s) (sym (still_opened start end looked)) sound

have_four : (old : At) (names : List (List ℕ)) (new : At) (ends : Bool) (greatest : ℕ) → HavePassed old names new ends greatest → greatest ≡ 4 → Rose old.state new.state
have_four old [] new ends greatest (same, last, is) four = absurd (omega (arith, is, four))
have_four old (name ∷ names) new ends greatest (mid, so_far, status, earlier, one, is) four = elim (either_is so_far status greatest 4 is four) as (λ _. Rose old.state new.state) [
  | inl there ↦ risen_then old.state.store.faults mid.state.store.faults new.state.store.faults (have_four old names mid false so_far earlier there) (looked_not_fewer mid.state new.state (passes_lead name mid new status ends one))
  | inr here ↦ risen_before old.state.store.faults mid.state.store.faults new.state.store.faults (looked_not_fewer old.state mid.state (have_lead old names mid false so_far earlier)) (pass_four name mid new status ends one here)
]

have_seven : (old : At) (names : List (List ℕ)) (new : At) (ends : Bool) (greatest : ℕ) → TellsSoundTree old.state.opened → HavePassed old names new ends greatest → greatest ≢ 7
have_seven old [] new ends greatest sound (same, last, is) seven = omega (arith, is, seven)
have_seven old (name ∷ names) new ends greatest sound (mid, so_far, status, earlier, one, is) seven = elim (either_is so_far status greatest 7 is seven) as (λ _. ⊥) [
  | inl there ↦ have_seven old names mid false so_far sound earlier there
  | inr here ↦ pass_seven name mid new status ends (sound_on old.state mid.state (have_lead old names mid false so_far earlier) sound) one here
]

all_four : (old new : At) (status : ℕ) → WritesAll old new status → status ≡ 4 → Rose old.state new.state
all_four old new status (passing.listed names mid makes each) four =
    risen_before old.state.store.faults mid.store.faults new.state.store.faults (looked_not_fewer old.state mid (makes_lead names_program names_look old.state (Ok names) mid makes)) (have_four (at mid old.deeds old.taking) each.passed new each.ends status each.have four)
all_four old new status (passing.unlisted why makes truly deeds said) four =
    truly.cause (stuck_four status why (decided_is (stuck_text why) (stuck_status why) old.taking new.taking status 4 (λ n a b. omega (arith, a, b)) (λ n a b. omega (arith, a, b)) said four) four)
all_four old new status (passing.unnamed begins deeds untold is) four = absurd (omega (arith, is, four))

all_seven : (old new : At) (status : ℕ) → TellsSoundTree old.state.opened → WritesAll old new status → status ≢ 7
all_seven old new status sound (passing.listed names mid makes each) seven =
    have_seven (at mid old.deeds old.taking) each.passed new each.ends status (sound_on old.state mid (makes_lead names_program names_look old.state (Ok names) mid makes) sound) each.have seven
all_seven old new status sound (passing.unlisted why makes truly deeds said) seven =
    stuck_seven status why (truly.undamaged sound) (decided_is (stuck_text why) (stuck_status why) old.taking new.taking status 7 (λ n a b. omega (arith, a, b)) (λ n a b. omega (arith, a, b)) said seven) seven
all_seven old new status sound (passing.unnamed begins deeds untold is) seven = omega (arith, is, seven)

-- ---- the run

pub export_caused : (deeds deeds_after : Option (List Deed)) (e : Ends) (status : ℕ) → ExportCourse deeds deeds_after e status → status ≡ 4 → (after : Stored) × (e.stored_after ≡ Some after) × HasRisen e.stored.faults after.faults
export_caused deeds deeds_after e status (unmounted why after is failed same sound said) four = (after, is, unmounted_four why e.taking e.taking_after status (HasRisen e.stored.faults after.faults) said (fault_has_cause e.stored after why failed) four)
export_caused deeds deeds_after e status (exported after is x) four = (
  after,
  is,
  subst (λ (s : Stored). HasRisen e.stored.faults s.faults) x.left
      (risen_before e.stored.faults x.start.store.faults x.end.store.faults (mounting_keeps e.times e.stored x.start x.mounted) (all_four (at x.start deeds e.taking) (at x.end deeds_after e.taking_after) status x.writes four)),
)

pub export_undamaged : (deeds deeds_after : Option (List Deed)) (e : Ends) (status : ℕ) → ExportCourse deeds deeds_after e status → TellsSoundTree e.stored → status ≢ 7
export_undamaged deeds deeds_after e status (unmounted why after is failed same sound said) told = unmounted_seven e.stored after why e.taking e.taking_after status failed said told
export_undamaged deeds deeds_after e status (exported after is x) told =
    all_seven (at x.start deeds e.taking) (at x.end deeds_after e.taking_after) status (subst (λ (s : Stored). TellsSoundTree s) (sym x.mounted.opened_is) told) x.writes
