-- Troubles of commands of small files: a fault is the store's own, and a container of units shows no damage.
use Rattle.std.proofs.Common.{◌≡◌, ℕ, true, false, List, Option, Some, None, Result, Ok, Err, refl, sym, ap, subst}
use Rattle.std.specs.Prelude.{slice_index}
use Rattle.plfs_types.specs.Counts.{HasRisen}
use Rattle.plfs_types.specs.Names.{IsLogicalName}
use Rattle.store_api.specs.Acts.{Stored}
use Rattle.store_api.specs.declared.tree.Tree.{Tree}
use Rattle.mount_model.specs.Mounting.{IsMounted}
use Rattle.mount_model.specs.Paths.{Name}
use Rattle.store_api.specs.Names.{marks_name}
use Rattle.mount_model.specs.State.{State}
use Rattle.mount_sound.specs.Sound.{IsSoundTree}
use Rattle.mount_sound.proofs.Facts.{mounted_sound}
use Rattle.reader_laws.specs.Moments.{IsSoundAt, Moment}
use Rattle.mount_model.specs.declared.stuck.Stuck.TheVariants as stuck
use Rattle.pack_files.specs.declared.scan.ScanStuck.{ScanStuck}
use Rattle.pack_files.specs.declared.scan.ScanStuck.TheVariants.{Bad, Stuck}
use Rattle.lone_flow.specs.declared.packing.Packed.{Packed}
use Rattle.packing_laws.specs.HasOnly.{IsOfUnits, TreeIsOfUnits}
use Rattle.packing_laws.specs.OnlyUnits.{Filing}
use Rattle.packing_laws.specs.Troubles.{TellsFault, TellsNoDamage}
use Rattle.script_lang.specs.declared.line.Outcome.{Outcome}
use Rattle.program_ends.specs.Ends.{Ends}
use Rattle.program_ends.specs.Outcomes.{is_broken_by}
use Rattle.program_ends.specs.Outcomes.{is_damage, is_fault}
use Rattle.plfs_program.specs.Packing.{end_of}
use Rattle.plfs_program.specs.SmallFiles.{outcome_of, told_of_file, told_of_names}
use Rattle.plfs_program.specs.UnitTrees.{TellsUnitsOf}
use Rattle.plfs_program.proofs.Courses.Lines.{mounting_keeps, risen_since}

-- ---- what is told of a trouble

fault_of : (R : Type 0) (why : ScanStuck) → is_fault (outcome_of why) ≡ true → TellsFault {R = R} (Err why)
fault_of R (Stuck stuck.Fault) bad = refl
fault_of R (Stuck (stuck.Damaged folder file place)) bad = absurd (cc)
fault_of R (Stuck (stuck.Refused why)) bad = absurd (cc)
fault_of R (Bad place) bad = absurd (cc)

damage_of : (R : Type 0) (why : ScanStuck) → TellsNoDamage {R = R} (Err why) → is_damage (outcome_of why) ≡ false
damage_of R (Stuck stuck.Fault) fine = refl
damage_of R (Stuck (stuck.Damaged folder file place)) fine = absurd fine
damage_of R (Stuck (stuck.Refused why)) fine = refl
damage_of R (Bad place) fine = absurd fine

-- what is told of a result tells of its fault, and of its damage alone
pub record TellsTroubles {R A : Type 0} (tells : Result R ScanStuck → Result A Outcome) : Type 0 where
  pub faults : (result : Result R ScanStuck) → is_broken_by is_fault (tells result) ≡ true → TellsFault result
  pub damage : (result : Result R ScanStuck) → TellsNoDamage result → is_broken_by is_damage (tells result) ≡ false

file_faults : (result : Result (Option (List ℕ)) ScanStuck) → is_broken_by is_fault (told_of_file result) ≡ true → TellsFault result
file_faults (Ok None) bad = absurd (cc)
file_faults (Ok (Some content)) bad = absurd (cc)
file_faults (Err why) bad = fault_of (Option (List ℕ)) why bad

file_damage : (result : Result (Option (List ℕ)) ScanStuck) → TellsNoDamage result → is_broken_by is_damage (told_of_file result) ≡ false
file_damage (Ok None) fine = refl
file_damage (Ok (Some content)) fine = refl
file_damage (Err why) fine = damage_of (Option (List ℕ)) why fine

names_faults : (result : Result (List Name) ScanStuck) → is_broken_by is_fault (told_of_names result) ≡ true → TellsFault result
names_faults (Ok names) bad = absurd (cc)
names_faults (Err why) bad = fault_of (List Name) why bad

names_damage : (result : Result (List Name) ScanStuck) → TellsNoDamage result → is_broken_by is_damage (told_of_names result) ≡ false
names_damage (Ok names) fine = refl
names_damage (Err why) fine = damage_of (List Name) why fine

end_faults : (result : Result Packed ScanStuck) → is_broken_by is_fault (end_of result) ≡ true → TellsFault result
end_faults (Ok packed) bad = absurd (cc)
end_faults (Err why) bad = fault_of Packed why bad

end_damage : (result : Result Packed ScanStuck) → TellsNoDamage result → is_broken_by is_damage (end_of result) ≡ false
end_damage (Ok packed) fine = refl
end_damage (Err why) fine = damage_of Packed why fine

pub file_tells : TellsTroubles told_of_file
file_tells = record { faults = file_faults; damage = file_damage }

pub names_tell : TellsTroubles told_of_names
names_tell = record { faults = names_faults; damage = names_damage }

pub end_tells : TellsTroubles end_of
end_tells = record { faults = end_faults; damage = end_damage }

-- ---- what the laws say

-- a mounting leaves the container so
abbrev pub MountsUnits : Type 0
MountsUnits = (serial : ℕ) (times : Option (List ℕ)) (opened : Stored) (start : State) (tree : Tree) (sound : IsSoundTree tree) (filing : Filing) (name : Name) → IsMounted serial times opened start → opened.tree ≡ Some tree
    → (name ≡ marks_name → ⊥) → TreeIsOfUnits filing tree sound name → IsOfUnits filing (record { state = start; issued = sound.issued }) name

-- whoever does so from one state to the other ends in a fault of the store alone, and shows no damage where the container has only units
pub record Troubles {R : Type 0} (name : Name) (Does : State → Result R ScanStuck → State → Type 0) : Type 0 where
  pub caused : (start : State) (result : Result R ScanStuck) (end : State) → Does start result end → TellsFault result → HasRisen start.store.faults end.store.faults
  pub undamaged : (filing : Filing) (start : Moment) (result : Result R ScanStuck) (end : State) → IsSoundAt start → IsOfUnits filing start name → Does start.state result end → TellsNoDamage result

-- ---- a run

no_marks : (name : Name) → IsLogicalName name → name ≡ marks_name → ⊥
no_marks name logical is = logical.no_dot (ap (λ n. slice_index n 0) is)

module _ {R A : Type 0} (name : Name) (Does : State → Result R ScanStuck → State → Type 0) (tells : Result R ScanStuck → Result A Outcome) (t : TellsTroubles tells) (laws : Troubles name Does) (e : Ends) (start end : State) (after : Stored) (result : Result R ScanStuck) where
  pub run_caused : IsMounted 0 e.times e.stored start → after ≡ end.store → Does start result end → is_broken_by is_fault (tells result) ≡ true → HasRisen e.stored.faults after.faults
  run_caused made left does bad =
      let Risen : Stored → Type 0 = λ s. HasRisen e.stored.faults s.faults in
      subst Risen (sym left) (risen_since e.stored.faults start.store.faults end.store.faults (mounting_keeps e.times e.stored start made) (laws.caused start result end does (t.faults result bad)))

  pub run_undamaged : MountsUnits → IsMounted 0 e.times e.stored start → Does start result end → IsLogicalName name → TellsUnitsOf e.stored name → is_broken_by is_damage (tells result) ≡ false
  run_undamaged mounts made does logical u =
      t.damage result
      (laws.undamaged u.filing (record { state = start; issued = u.sound.issued }) result end (mounted_sound 0 e.times e.stored start u.tree made u.told u.sound)
      (mounts 0 e.times e.stored start u.tree u.sound u.filing name made u.told (no_marks name logical) u.units) does)
