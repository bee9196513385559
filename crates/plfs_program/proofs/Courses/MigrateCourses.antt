-- From a migration on a mount to the run that made it.
use Rattle.std.proofs.Common.{◌≡◌, ℕ, ◌⊎◌, inl, inr, Bool, true, false, ◌||◌, List, [], ◌∷◌, Some, Result, Ok, Err, refl, sym, subst}
use Rattle.std.proofs.lemmas.List.Elements.{All-nil, All-cons}
use Rattle.plfs_types.specs.Counts.{HasRisen}
use Rattle.store_api.specs.Acts.{Stored}
use Rattle.mount_model.specs.declared.stuck.Stuck.{Stuck}
use Rattle.mount_model.specs.declared.stuck.Stuck.TheVariants as stuck
use Rattle.mount_model.specs.State.{State}
use Rattle.mount_model.specs.Failing.{FailsToMount}
use Rattle.mount_model.specs.Mounting.{IsMounted}
use Rattle.mount_model.specs.declared.mount_trouble.MountTrouble.{MountTrouble}
use Rattle.mount_model.specs.declared.mount_trouble.MountTrouble.TheVariants as trouble
use Rattle.migrate_core.specs.declared.migrated.Migrated.{Migrated}
use Rattle.trouble_laws.specs.Undamaged.{IsUndamaged}
use Rattle.lone_flow.specs.Faults.{IsFault}
use Rattle.outcomes.specs.Outcomes.{stuck_outcome}
use Rattle.script_lang.specs.declared.line.Line.{Line}
use Rattle.script_lang.specs.declared.line.Outcome.{Outcome}
use Rattle.report_text.specs.Text.{HaveText, ListsLogicalNames, text_of}
use Rattle.program_ends.specs.Leaving.{ran, broke_off, IsStoreLeft}
use Rattle.program_ends.specs.Ends.{Ends}
use Rattle.plfs_program.specs.Migrating.{HasBegunIt, IsMigratedAs, IsMigration, MigrateCourse, MigratesOn, Said, cut_off, ended_so, exhausted, mounted, printed, said_of, said_status, said_text, starved, unmounted}
use Rattle.program_ends.specs.Outcomes.{is_broken_by}
use Rattle.program_ends.specs.Reported.{IsReported, line_zero}
use Rattle.program_ends.specs.Mounting.{unmounted_of}
use Rattle.program_ends.specs.Outcomes.{is_damage, is_fault, status_of}
use Rattle.program_ends.specs.Output.{IsPrinted, IsCutOff}
use Rattle.program_ends.specs.SoundTrees.{TellsSoundTree}
use Rattle.program_ends.proofs.Facts.{was_run, SaidUnmounted, fault_line_alone, unmounted_undamaged}
use Rattle.plfs_program.proofs.Courses.Lines.{mounting_keeps, risen_since}
use Rattle.plfs_program.proofs.Courses.Plain.{mounted_clean}

-- ---- the line of a trouble

stuck_text : (why : Stuck) → ListsLogicalNames (stuck_outcome why)
stuck_text stuck.Fault = tt
stuck_text (stuck.Damaged folder file place) = tt
stuck_text (stuck.Refused why) = tt

pub stuck_has_text : (why : Stuck) → HaveText (line_zero (stuck_outcome why) ∷ [])
stuck_has_text why = All-cons (λ (line : Line). ListsLogicalNames line.outcome) (line_zero (stuck_outcome why)) [] (stuck_text why) (All-nil (λ (line : Line). ListsLogicalNames line.outcome))

ended_in_fault : (ended : Result Migrated Stuck) → is_broken_by is_fault (said_of ended) ≡ true → IsFault ended
ended_in_fault (Ok out) bad = absurd (cc)
ended_in_fault (Err stuck.Fault) bad = refl
ended_in_fault (Err (stuck.Damaged folder file place)) bad = absurd (cc)
ended_in_fault (Err (stuck.Refused why)) bad = absurd (cc)

ended_undamaged : (ended : Result Migrated Stuck) → IsUndamaged ended → is_broken_by is_damage (said_of ended) ≡ false
ended_undamaged (Ok out) none = refl
ended_undamaged (Err stuck.Fault) none = refl
ended_undamaged (Err (stuck.Damaged folder file place)) none = absurd none
ended_undamaged (Err (stuck.Refused why)) none = refl

-- ---- on a mount

was_left : (name : List ℕ) (e : Ends) (start end : State) (after : Stored) → e.stored_after ≡ Some after → IsMounted 0 e.times e.stored start → after ≡ end.store → HasBegunIt name start end → IsStoreLeft (HasBegunIt name) e
was_left name e start end after is made left begun = record { after = after; left = is; lawful = ran (was_run (HasBegunIt name) e.times e.stored after start end made begun left) }

migrated_as : (name : List ℕ) (e : Ends) (start end : State) (after : Stored) (ended : Result Migrated Stuck) → e.stored_after ≡ Some after → IsMounted 0 e.times e.stored start → after ≡ end.store → IsMigration name start ended end → IsMigratedAs name (said_of ended) e
migrated_as name e start end after ended is made left m = record {
  after = after;
  left = is;
  came = mounted ended (record { start = start; end = end; mounted = made; made = m.made.made; left = sym left; packed = λ told. m.made.shows (mounted_clean e.times e.stored start made told) }) refl;
  cause = λ bad.
      let R : Stored → Type 0 = λ s. HasRisen e.stored.faults s.faults in
      subst R (sym left) (risen_since e.stored.faults start.store.faults end.store.faults (mounting_keeps e.times e.stored start made) (m.cause (ended_in_fault ended bad)));
  undamaged = λ told. ended_undamaged ended (m.undamaged (mounted_clean e.times e.stored start made told));
}

-- what was said became of it
said_so : (name : List ℕ) (said : Said) (e : Ends) (status : ℕ) → IsMigratedAs name said e → IsStoreLeft (HasBegunIt name) e → IsReported (said_text said) (said_status said) e.taking e.taking_after status → MigrateCourse name e status
said_so name said e status m left (inl (told, all)) = printed said m all told
said_so name said e status m left (inr (inl (told, part))) = cut_off said m part told
said_so name said e status m left (inr (inr (told, untold))) = exhausted left untold told

pub migrated_so : (name : List ℕ) (e : Ends) (status : ℕ) (start end : State) (after : Stored) → e.stored_after ≡ Some after → IsMounted 0 e.times e.stored start → after ≡ end.store → MigratesOn name start e.taking end e.taking_after status → MigrateCourse name e status
migrated_so name e status start end after is made left (ended_so ended m said) = said_so name (said_of ended) e status (migrated_as name e start end after ended is made left m) (was_left name e start end after is made left (inl (ended, m.made.made))) said
migrated_so name e status start end after is made left (starved broken same told) = exhausted (was_left name e start end after is made left (inr broken)) same told

-- ---- without a mount

or_false : (b : Bool) → (b || false) ≡ false → b ≡ false
or_false true is = is
or_false false is = refl

or_true : (b : Bool) → b ≡ true → (b || false) ≡ true
or_true true is = refl
or_true false is = is

-- the outcome of a mounting that broke off is a fault only where the mounting had one, and no damage over a sound tree
pub unmounted_caused : (e : Ends) (why : MountTrouble) (outcome : Outcome) (after : Stored) → (why ≡ trouble.Fault → HasRisen e.stored.faults after.faults) → unmounted_of why ≡ Some outcome → is_fault outcome ≡ true → HasRisen e.stored.faults after.faults
unmounted_caused e why outcome after cause told bad = fault_line_alone why outcome (line_zero outcome ∷ []) (HasRisen e.stored.faults after.faults) told refl cause (or_true (is_fault outcome) bad)

pub unmounted_whole : (e : Ends) (why : MountTrouble) (outcome : Outcome) (after : Stored) → FailsToMount e.stored why after → unmounted_of why ≡ Some outcome → TellsSoundTree e.stored → is_damage outcome ≡ false
unmounted_whole e why outcome after failed told sound = or_false (is_damage outcome) (unmounted_undamaged e.stored after why (line_zero outcome ∷ []) failed (outcome, told, refl) sound)

unmounted_as : (name : List ℕ) (e : Ends) (why : MountTrouble) (outcome : Outcome) (after : Stored) → e.stored_after ≡ Some after → FailsToMount e.stored why after → (why ≡ trouble.Fault → HasRisen e.stored.faults after.faults) → unmounted_of why ≡ Some outcome → IsMigratedAs name (Err outcome) e
unmounted_as name e why outcome after is failed cause told = record {
  after = after;
  left = is;
  came = unmounted why outcome failed told refl;
  cause = unmounted_caused e why outcome after cause told;
  undamaged = unmounted_whole e why outcome after failed told;
}

pub not_mounted_so : (name : List ℕ) (e : Ends) (status : ℕ) (why : MountTrouble) (after : Stored) → e.stored_after ≡ Some after → FailsToMount e.stored why after → (why ≡ trouble.Fault → HasRisen e.stored.faults after.faults)
    → SaidUnmounted why e.taking e.taking_after status → MigrateCourse name e status
not_mounted_so name e status why after is failed cause (inl (lines, (outcome, told, only), said)) =
    let Says : List Line → Type 0 = λ z. ((status ≡ status_of z) × IsPrinted (text_of z) e.taking e.taking_after) ⊎ ((status ≡ 6) × IsCutOff (text_of z) e.taking e.taking_after) in
    let m : IsMigratedAs name (Err outcome) e = unmounted_as name e why outcome after is failed cause told in
    elim (subst Says only said) as (λ _. MigrateCourse name e status) [
      | inl all ↦ printed (Err outcome) m all.1 all.0
      | inr part ↦ cut_off (Err outcome) m part.1 part.0
    ]
not_mounted_so name e status why after is failed cause (inr (told, same)) = exhausted (record { after = after; left = is; lawful = broke_off why failed }) same told
