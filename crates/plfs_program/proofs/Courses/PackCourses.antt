-- From a packing on a mount to the run that made it.
use Rattle.std.proofs.Common.{◌≡◌, ℕ, ◌⊎◌, inl, inr, List, Some, Result, Err, refl, sym, subst}
use Rattle.plfs_types.specs.Counts.{HasRisen}
use Rattle.store_api.specs.Acts.{Stored}
use Rattle.mount_model.specs.State.{State}
use Rattle.mount_model.specs.Failing.{FailsToMount}
use Rattle.mount_model.specs.Mounting.{IsMounted}
use Rattle.mount_model.specs.declared.mount_trouble.MountTrouble.{MountTrouble}
use Rattle.mount_model.specs.declared.mount_trouble.MountTrouble.TheVariants as trouble
use Rattle.pack_files.specs.declared.scan.ScanStuck.{ScanStuck}
use Rattle.pack_input.specs.declared.files.NamedFile.{NamedFile}
use Rattle.lone_flow.specs.Packing.{Packs}
use Rattle.lone_flow.specs.declared.packing.Packed.{Packed}
use Rattle.script_lang.specs.declared.line.Line.{Line}
use Rattle.script_lang.specs.declared.line.Outcome.{Outcome}
use Rattle.report_text.specs.Text.{text_of}
use Rattle.program_ends.specs.Leaving.{broke_off as unmounted_left, ran, IsStoreLeft}
use Rattle.program_ends.specs.Ends.{Ends}
use Rattle.program_ends.specs.Reported.{IsReported}
use Rattle.program_ends.specs.Mounting.{unmounted_of}
use Rattle.program_ends.specs.Outcomes.{status_of}
use Rattle.program_ends.specs.Output.{IsPrinted, IsCutOff}
use Rattle.plfs_program.specs.Packing.{HasBegunToPack, IsPackedAs, PackCourse, PackEnd, PackInputCourse, PacksOn, broke_off, cut_off, end_of, ended_so, exhausted, mounted, packed_status, packed_text, printed, unmounted}
use Rattle.program_ends.proofs.Facts.{was_run, SaidUnmounted}
use Rattle.plfs_program.proofs.Courses.MigrateCourses.{unmounted_caused, unmounted_whole}
use Rattle.plfs_program.proofs.Courses.UnitCourses.{MountsUnits, Troubles, end_tells, run_caused, run_undamaged}

-- ---- on a mount

module _ (name : List ℕ) (region : ℕ) (files : List NamedFile) (mounts : MountsUnits) (troubles : Troubles name (Packs name region files)) (e : Ends) (status : ℕ) where
  was_left : (start end : State) (after : Stored) → e.stored_after ≡ Some after → IsMounted 0 e.times e.stored start → after ≡ end.store → HasBegunToPack name region files start end → IsStoreLeft (HasBegunToPack name region files) e
  was_left start end after is made left begun = record { after = after; left = is; lawful = ran (was_run (HasBegunToPack name region files) e.times e.stored after start end made begun left) }

  packed_as : (start end : State) (after : Stored) (result : Result Packed ScanStuck) → e.stored_after ≡ Some after → IsMounted 0 e.times e.stored start → after ≡ end.store → Packs name region files start result end → IsPackedAs name region files (end_of result) e
  packed_as start end after result is made left packs = record {
    after = after;
    left = is;
    came = mounted result (record { start = start; end = end; mounted = made; packs = packs; left = sym left }) refl;
    cause = run_caused name (Packs name region files) end_of end_tells troubles e start end after result made left packs;
    undamaged = run_undamaged name (Packs name region files) end_of end_tells troubles e start end after result mounts made packs;
  }

  -- what was said became of it
  said_so : (ended : PackEnd) → IsPackedAs name region files ended e → IsStoreLeft (HasBegunToPack name region files) e → IsReported (packed_text files ended) (packed_status ended) e.taking e.taking_after status → PackCourse name region files e status
  said_so ended p left (inl (told, all)) = printed ended p all told
  said_so ended p left (inr (inl (told, part))) = cut_off ended p part told
  said_so ended p left (inr (inr (told, untold))) = exhausted left untold told

  pub packed_so : (start end : State) (after : Stored) → e.stored_after ≡ Some after → IsMounted 0 e.times e.stored start → after ≡ end.store → PacksOn name region files start e.taking end e.taking_after status → PackCourse name region files e status
  packed_so start end after is made left (ended_so result packs said) = said_so (end_of result) (packed_as start end after result is made left packs) (was_left start end after is made left (inl (result, packs))) said
  packed_so start end after is made left (broke_off begun same told) = exhausted (was_left start end after is made left (inr begun)) same told

-- ---- without a mount

module _ (name : List ℕ) (region : ℕ) (files : List NamedFile) (e : Ends) (status : ℕ) where
  unmounted_as : (why : MountTrouble) (outcome : Outcome) (after : Stored) → e.stored_after ≡ Some after → FailsToMount e.stored why after → (why ≡ trouble.Fault → HasRisen e.stored.faults after.faults) → unmounted_of why ≡ Some outcome → IsPackedAs name region files (Err outcome) e
  unmounted_as why outcome after is failed cause told = record {
    after = after;
    left = is;
    came = unmounted why outcome failed told refl;
    cause = unmounted_caused e why outcome after cause told;
    undamaged = λ logical u. unmounted_whole e why outcome after failed told (u.tree, u.told, u.sound);
  }

  pub not_packed_so : (why : MountTrouble) (after : Stored) → e.stored_after ≡ Some after → FailsToMount e.stored why after → (why ≡ trouble.Fault → HasRisen e.stored.faults after.faults) → SaidUnmounted why e.taking e.taking_after status → PackCourse name region files e status
  not_packed_so why after is failed cause (inl (lines, (outcome, told, only), said)) =
      let Says : List Line → Type 0 = λ z. ((status ≡ status_of z) × IsPrinted (text_of z) e.taking e.taking_after) ⊎ ((status ≡ 6) × IsCutOff (text_of z) e.taking e.taking_after) in
      let p : IsPackedAs name region files (Err outcome) e = unmounted_as why outcome after is failed cause told in
      elim (subst Says only said) as (λ _. PackCourse name region files e status) [
        | inl all ↦ printed (Err outcome) p all.1 all.0
        | inr part ↦ cut_off (Err outcome) p part.1 part.0
      ]
  not_packed_so why after is failed cause (inr (told, same)) = exhausted (record { after = after; left = is; lawful = unmounted_left why failed }) same told

-- ---- the input

-- what became of the bytes that a slice shows became of the bytes
pub course_of_bytes : (name : List ℕ) (region : ℕ) (bytes shown : List ℕ) (e : Ends) (status : ℕ) → shown ≡ bytes → PackInputCourse name region shown e status → PackInputCourse name region bytes e status
course_of_bytes name region bytes shown e status same course = let P : List ℕ → Type 0 = λ b. PackInputCourse name region b e status in subst P same course
