-- From small files that were read on a mount to the run that read them.
use Rattle.std.proofs.Common.{◌≡◌, ℕ, ◌⊎◌, inl, inr, List, Option, Some, Result, Err, refl, sym, subst}
use Rattle.plfs_types.specs.Counts.{HasRisen}
use Rattle.store_api.specs.Acts.{Stored}
use Rattle.mount_model.specs.State.{State}
use Rattle.mount_model.specs.Paths.{Name}
use Rattle.mount_model.specs.Failing.{FailsToMount}
use Rattle.mount_model.specs.Mounting.{IsMounted}
use Rattle.mount_model.specs.declared.mount_trouble.MountTrouble.{MountTrouble}
use Rattle.mount_model.specs.declared.mount_trouble.MountTrouble.TheVariants as trouble
use Rattle.mount_sound.proofs.Facts.{mounted_sound}
use Rattle.reader_laws.specs.Moments.{Moment, IsSoundAt}
use Rattle.pack_files.specs.declared.scan.ScanStuck.{ScanStuck}
use Rattle.lone_flow.specs.Looking.{HasLooked}
use Rattle.lone_flow.specs.Naming.{BeginsToName, Names}
use Rattle.lone_flow.specs.Unpacking.{BeginsToUnpack, Unpacks}
use Rattle.packing_laws.specs.Seen.{Sees}
use Rattle.packing_laws.specs.Told.{AreNames, IsContent}
use Rattle.script_lang.specs.declared.line.Line.{Line}
use Rattle.script_lang.specs.declared.line.Outcome.{Outcome}
use Rattle.report_text.specs.Text.{text_of}
use Rattle.program_ends.specs.Leaving.{broke_off as unmounted_left, ran, IsStoreLeft}
use Rattle.program_ends.specs.Ends.{Ends}
use Rattle.program_ends.specs.Reported.{IsReported}
use Rattle.program_ends.specs.Mounting.{unmounted_of}
use Rattle.program_ends.specs.Outcomes.{status_of}
use Rattle.program_ends.specs.Output.{IsPrinted, IsCutOff}
use Rattle.plfs_program.specs.SmallFiles.{Begins, Does, HasBegunToRead, IsToldAs, NamesCourse, ReadCourse, ReadsOn, Claims, Told, UnpackCourse, broke_off, cut_off, ended_so, exhausted, mounted, printed, told_of_file, told_of_names, told_status, told_text, unmounted}
use Rattle.program_ends.proofs.Facts.{was_run, SaidUnmounted}
use Rattle.plfs_program.proofs.Courses.MigrateCourses.{unmounted_caused, unmounted_whole}
use Rattle.plfs_program.proofs.Courses.UnitCourses.{MountsUnits, TellsTroubles, Troubles, file_tells, names_tell, run_caused, run_undamaged}

-- ---- on a mount

was_left : {R : Type 0} (Reads : Does R) (Broken : Begins) (e : Ends) (start end : State) (after : Stored) → e.stored_after ≡ Some after → IsMounted 0 e.times e.stored start → after ≡ end.store → HasBegunToRead Reads Broken start end
    → IsStoreLeft (HasBegunToRead Reads Broken) e
was_left Reads Broken e start end after is made left begun = record { after = after; left = is; lawful = ran (was_run (HasBegunToRead Reads Broken) e.times e.stored after start end made begun left) }

-- what the law says of what a caller by itself reads so
abbrev SeesLaw : {R : Type 0} → Does R → Claims R → Type 0
SeesLaw {R} Reads Holds = (start : Moment) (result : Result R ScanStuck) (end : State) → IsSoundAt start → Reads start.state result end → Sees start result (λ pieces bytes from. Holds pieces bytes from end result)

module _ {R : Type 0} (name : Name) (Reads : Does R) (Broken : Begins) (Holds : Claims R) (tells : Result R ScanStuck → Told) (law : SeesLaw Reads Holds) (t : TellsTroubles tells) (mounts : MountsUnits) (troubles : Troubles name Reads) (e : Ends) (status : ℕ) where
  told_as : (start end : State) (after : Stored) (result : Result R ScanStuck) → e.stored_after ≡ Some after → IsMounted 0 e.times e.stored start → after ≡ end.store → Reads start result end → HasLooked start end
      → IsToldAs name Reads Holds tells (tells result) e
  told_as start end after result is made left reads looked = record {
    after = after;
    left = is;
    came = mounted result (record {
      start = start;
      end = end;
      mounted = made;
      reads = reads;
      looked = looked;
      left = sym left;
      seen = λ told.
          let s = mounted_sound 0 e.times e.stored start told.0 made told.1 told.2 in
          (told.2.issued, s, law (record { state = start; issued = told.2.issued }) result end s reads);
    }) refl;
    cause = run_caused name Reads tells t troubles e start end after result made left reads;
    undamaged = run_undamaged name Reads tells t troubles e start end after result mounts made reads;
  }

  said_so : (told : Told) → IsToldAs name Reads Holds tells told e → IsStoreLeft (HasBegunToRead Reads Broken) e → IsReported (told_text told) (told_status told) e.taking e.taking_after status → ReadCourse name Reads Broken Holds tells e status
  said_so told a left (inl (is, all)) = printed told a all is
  said_so told a left (inr (inl (is, part))) = cut_off told a part is
  said_so told a left (inr (inr (is, untold))) = exhausted left untold is

  read_so : (start end : State) (after : Stored) → e.stored_after ≡ Some after → IsMounted 0 e.times e.stored start → after ≡ end.store → ReadsOn Reads Broken tells start e.taking end e.taking_after status → ReadCourse name Reads Broken Holds tells e status
  read_so start end after is made left (ended_so result reads looked said) =
      said_so (tells result) (told_as start end after result is made left reads looked) (was_left Reads Broken e start end after is made left (record { looked = looked; begun = inl (result, reads) })) said
  read_so start end after is made left (broke_off broken looked same told) = exhausted (was_left Reads Broken e start end after is made left (record { looked = looked; begun = inr broken })) same told

-- ---- without a mount

module _ {R : Type 0} (name : Name) (Reads : Does R) (Broken : Begins) (Holds : Claims R) (tells : Result R ScanStuck → Told) (e : Ends) (status : ℕ) where
  unmounted_as : (why : MountTrouble) (outcome : Outcome) (after : Stored) → e.stored_after ≡ Some after → FailsToMount e.stored why after → (why ≡ trouble.Fault → HasRisen e.stored.faults after.faults) → unmounted_of why ≡ Some outcome → IsToldAs name Reads Holds tells (Err outcome) e
  unmounted_as why outcome after is failed cause told = record {
    after = after;
    left = is;
    came = unmounted why outcome failed told refl;
    cause = unmounted_caused e why outcome after cause told;
    undamaged = λ logical u. unmounted_whole e why outcome after failed told (u.tree, u.told, u.sound);
  }

  not_read_so : (why : MountTrouble) (after : Stored) → e.stored_after ≡ Some after → FailsToMount e.stored why after → (why ≡ trouble.Fault → HasRisen e.stored.faults after.faults) → SaidUnmounted why e.taking e.taking_after status → ReadCourse name Reads Broken Holds tells e status
  not_read_so why after is failed cause (inl (lines, (outcome, told, only), said)) =
      let Says : List Line → Type 0 = λ z. ((status ≡ status_of z) × IsPrinted (text_of z) e.taking e.taking_after) ⊎ ((status ≡ 6) × IsCutOff (text_of z) e.taking e.taking_after) in
      let t : IsToldAs name Reads Holds tells (Err outcome) e = unmounted_as why outcome after is failed cause told in
      elim (subst Says only said) as (λ _. ReadCourse name Reads Broken Holds tells e status) [
        | inl all ↦ printed (Err outcome) t all.1 all.0
        | inr part ↦ cut_off (Err outcome) t part.1 part.0
      ]
  not_read_so why after is failed cause (inr (told, same)) = exhausted (record { after = after; left = is; lawful = unmounted_left why failed }) same told

-- ---- the two commands

abbrev UnpackLaw : Type 0
UnpackLaw = (name file : Name) (start : Moment) (result : Result (Option (List ℕ)) ScanStuck) (end : State) → IsSoundAt start → Unpacks name file start.state result end
    → Sees start result (λ pieces bytes from. IsContent pieces bytes file from end result)

abbrev NamesLaw : Type 0
NamesLaw = (name : Name) (start : Moment) (result : Result (List Name) ScanStuck) (end : State) → IsSoundAt start → Names name start.state result end
    → Sees start result (λ pieces bytes from. AreNames pieces bytes from end result)

abbrev ShowsFile : Name → Claims (Option (List ℕ))
ShowsFile file = λ pieces bytes from end result. IsContent pieces bytes file from end result

pub unpack_so : UnpackLaw → MountsUnits → (name file : List ℕ) → Troubles name (Unpacks name file) → (e : Ends) (status : ℕ) (start end : State) (after : Stored) → e.stored_after ≡ Some after → IsMounted 0 e.times e.stored start → after ≡ end.store
    → ReadsOn (Unpacks name file) (BeginsToUnpack name file) told_of_file start e.taking end e.taking_after status → UnpackCourse name file e status
unpack_so law mounts name file troubles e status = read_so name (Unpacks name file) (BeginsToUnpack name file) (ShowsFile file) told_of_file (law name file) file_tells mounts troubles e status

pub not_unpack_so : (name file : List ℕ) (e : Ends) (status : ℕ) (why : MountTrouble) (after : Stored) → e.stored_after ≡ Some after → FailsToMount e.stored why after → (why ≡ trouble.Fault → HasRisen e.stored.faults after.faults)
    → SaidUnmounted why e.taking e.taking_after status → UnpackCourse name file e status
not_unpack_so name file e status = not_read_so name (Unpacks name file) (BeginsToUnpack name file) (ShowsFile file) told_of_file e status

pub names_so : NamesLaw → MountsUnits → (name : List ℕ) → Troubles name (Names name) → (e : Ends) (status : ℕ) (start end : State) (after : Stored) → e.stored_after ≡ Some after → IsMounted 0 e.times e.stored start → after ≡ end.store
    → ReadsOn (Names name) (BeginsToName name) told_of_names start e.taking end e.taking_after status → NamesCourse name e status
names_so law mounts name troubles e status = read_so name (Names name) (BeginsToName name) AreNames told_of_names (law name) names_tell mounts troubles e status

pub not_names_so : (name : List ℕ) (e : Ends) (status : ℕ) (why : MountTrouble) (after : Stored) → e.stored_after ≡ Some after → FailsToMount e.stored why after → (why ≡ trouble.Fault → HasRisen e.stored.faults after.faults)
    → SaidUnmounted why e.taking e.taking_after status → NamesCourse name e status
not_names_so name e status = not_read_so name (Names name) (BeginsToName name) AreNames told_of_names e status
