-- A mount that has drawn its mark.
use Rattle.std.proofs.Common.{◌≡◌, ℕ, ◌<◌, ◌≤◌, ◌^◌, List, Option, Ok, Err, refl, ap, arith, inl, inr}
use Rattle.store_api.specs.declared.step.Answer.TheVariants.{Names}
use Rattle.store_api.specs.declared.store.Trouble.TheVariants as trouble
use Rattle.plfs_types.specs.Counts.{HasRisen}
use Rattle.store_api.specs.Step.{Step}
use Rattle.store_api.specs.Acts.{Stored, Acts}
use Rattle.mount_model.specs.Making.{Told}
use Rattle.mount_model.specs.Paths.{Name}
use Rattle.mount_model.specs.Listed.{IsGreatest, IsMarkOf}
use Rattle.mount_model.specs.Mounting.{marks_step, list_step, mark_step, DrawsMark, IsMounted}
use Rattle.mount_model.specs.Failing.{trouble_of, LeavesNone, FailsToMount, no_room, no_names, no_next, no_mark}
use Rattle.mount_table.specs.Roll.{new_roll, state_of}
use Rattle.mount_model.specs.declared.mount_trouble.MountTrouble.{MountTrouble}
use Rattle.mount_model.specs.declared.mount_trouble.MountTrouble.TheVariants.{Fault}

pub mark_fits : (names : List Name) (greatest : ℕ) → IsGreatest IsMarkOf names greatest → greatest < 2 ^ 32
mark_fits names greatest known = elim known.reached [ inl none ↦ omega (arith, none.1) | inr any ↦ any.4.0.1 ]

pub mounted : (opened new : Stored) (times : Option (List ℕ)) (room mount serial : ℕ) → DrawsMark opened room mount new → serial < 2 ^ 32 → IsMounted serial times opened (state_of new opened times (new_roll room mount serial))
mounted opened new times room mount serial draws fits = record {
  draws = draws;
  opened_is = refl;
  times_are = refl;
  serial_is = refl;
  serial_fits = fits;
  no_writers = refl;
  no_holders = refl;
  no_flattenings = refl;
}

-- ---- a fault has a cause

faults_stay : (step : Step) (old new : Stored) (told : Told) → Acts step old new told → old.faults ≤ new.faults
faults_stay step old new (Ok answer) made = let same : new.faults ≡ old.faults = made.faults in omega (arith, same)
faults_stay step old new (Err trouble.Fault) made = made.faults
faults_stay step old new (Err trouble.NoMemory) made = let same = ap (λ (s : Stored). s.faults) made in omega arith

cause_of : (step : Step) (old new : Stored) (told : Told) (why : MountTrouble) → Acts step old new told → why ≡ trouble_of told → why ≡ Fault → HasRisen old.faults new.faults
cause_of step old new (Ok answer) why made is fault = absurd (cc)
cause_of step old new (Err trouble.Fault) why made is fault = made.cause
cause_of step old new (Err trouble.NoMemory) why made is fault = absurd (cc)

risen_from : (a b c : ℕ) → a ≤ b → HasRisen b c → HasRisen a c
risen_from a b c le (inl less) = inl (omega arith)
risen_from a b c le (inr end) = inr end

never : (names : List Name) (why : MountTrouble) → LeavesNone names why → why ≡ Fault → ⊥
never names why (inl damaged) fault = let is = damaged.2 in absurd (cc)
never names why (inr spent) fault = let is = spent.1 in absurd (cc)

pub fault_has_cause : (opened left : Stored) (why : MountTrouble) → FailsToMount opened why left → why ≡ Fault → HasRisen opened.faults left.faults
fault_has_cause opened left why (no_room failed) fault = cause_of marks_step opened left failed.told why failed.made failed.cause fault
fault_has_cause opened left why (no_names roomed room tells failed) fault =
    risen_from opened.faults roomed.faults left.faults (faults_stay marks_step opened roomed tells.told tells.made)
    (cause_of (list_step room) roomed left failed.told why failed.made failed.cause fault)
fault_has_cause opened left why (no_next roomed room names tells lists none) fault = absurd (never names why none fault)
fault_has_cause opened left why (no_mark roomed listed room names mount tells lists next failed) fault =
    risen_from opened.faults roomed.faults left.faults (faults_stay marks_step opened roomed tells.told tells.made)
    (risen_from roomed.faults listed.faults left.faults (faults_stay (list_step room) roomed listed (Ok (Names names)) lists)
    (cause_of (mark_step room mount) listed left failed.told why failed.made failed.cause fault))
