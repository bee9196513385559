-- What becomes of small files that are packed.
use Rattle.std.specs.Prelude.{ℕ, ◌≡◌, ◌⊎◌, List, [], ◌∷◌, ◌++◌, length, true, false, Option, Some, Result, Ok, Err, codes}
use Rattle.std.specs.Fmt.{decimal}
use Rattle.plfs_types.specs.Counts.{HasRisen}
use Rattle.plfs_types.specs.Names.{IsLogicalName}
use Rattle.edge_io.specs.Sink.{Taking}
use Rattle.store_api.specs.Acts.{Stored}
use Rattle.mount_model.specs.State.{State}
use Rattle.mount_model.specs.Mounting.{IsMounted}
use Rattle.mount_model.specs.Failing.{FailsToMount}
use Rattle.mount_model.specs.declared.mount_trouble.MountTrouble.{MountTrouble}
use Rattle.pack_files.specs.declared.scan.ScanStuck.{ScanStuck}
use Rattle.pack_input.specs.Input.{Fault, HasFault, IsInput}
use Rattle.pack_input.specs.declared.files.NamedFile.{NamedFile}
use Rattle.pack_input.specs.declared.trouble.Kind.{Kind}
use Rattle.pack_input.specs.declared.trouble.Kind.TheVariants.{Long, Spaces, Count, Name, Data}
use Rattle.lone_flow.specs.Packing.{BeginsToPack, Packs}
use Rattle.lone_flow.specs.declared.packing.Packed.{Packed}
use Rattle.lone_flow.specs.declared.packing.Packed.TheVariants.{All, Full}
use Rattle.script_lang.specs.declared.line.Outcome.{Outcome}
use Rattle.report_text.specs.Text.{text_of}
use Rattle.program_ends.specs.Ends.{Ends, IsUntouched, IsSaid}
use Rattle.program_ends.specs.Reported.{IsReported, line_zero}
use Rattle.program_ends.specs.Outcomes.{is_broken_by}
use Rattle.program_ends.specs.Mounting.{unmounted_of}
use Rattle.program_ends.specs.Outcomes.{is_damage, is_fault, status_of}
use Rattle.program_ends.specs.Output.{IsPrinted, IsCutOff}
use Rattle.program_ends.specs.Leaving.{IsStoreLeft}
use Rattle.plfs_program.specs.SmallFiles.{outcome_of}
use Rattle.plfs_program.specs.UnitTrees.{TellsUnitsOf}

-- ---- what is said

-- the word of a kind of fault in the input
abbrev pub fault_word : Kind → List ℕ
fault_word Long = codes "long"
fault_word Spaces = codes "spaces"
fault_word Count = codes "count"
fault_word Name = codes "name"
fault_word Data = codes "data"

-- the number of the input's line, and the kind of its fault
abbrev pub pack_fault_line : Fault → List ℕ
pack_fault_line fault = codes "pack " ++ (decimal fault.line ++ (codes " " ++ (fault_word fault.kind ++ codes "\n")))

-- how many files were put, and where the last one ends
abbrev pub packed_line : ℕ → ℕ → List ℕ
packed_line count end = codes "packed " ++ (decimal count ++ (codes " end " ++ (decimal end ++ codes "\n")))

-- how a packing ended, or what broke it off
abbrev pub PackEnd : Type 0
PackEnd = Result Packed Outcome

abbrev pub end_of : Result Packed ScanStuck → PackEnd
end_of (Ok packed) = Ok packed
end_of (Err why) = Err (outcome_of why)

-- what is said of these files
abbrev pub packed_text : List NamedFile → PackEnd → List ℕ
packed_text files (Ok (All end)) = packed_line (length files) end
packed_text files (Ok Full) = codes "0 refused region-full\n"
packed_text files (Err outcome) = text_of (line_zero outcome ∷ [])

abbrev pub packed_status : PackEnd → ℕ
packed_status (Ok (All end)) = 0
packed_status (Ok Full) = 1
packed_status (Err outcome) = status_of (line_zero outcome ∷ [])

-- ---- what was done

-- A mount was made of the store as it was. On it caller 0 by itself packed these files into a region of the container, which ended so and led to what
-- is left of the store.
pub record IsPackedOn (times : Option (List ℕ)) (before : Stored) (name : List ℕ) (region : ℕ) (files : List NamedFile) (result : Result Packed ScanStuck) (after : Stored) : Type 0 where
  pub start : State
  pub end : State
  pub mounted : IsMounted 0 times before start
  pub packs : Packs name region files start result end
  pub left : end.store ≡ after

-- The mounting broke off, of which that is said; or they were packed, and that is said of how it ended.
pub data IsEndOf (times : Option (List ℕ)) (before after : Stored) (name : List ℕ) (region : ℕ) (files : List NamedFile) (ended : PackEnd) : Type 0 where
  unmounted : (trouble : MountTrouble) (outcome : Outcome) → FailsToMount before trouble after → unmounted_of trouble ≡ Some outcome → ended ≡ Err outcome → IsEndOf times before after name region files ended
  mounted : (result : Result Packed ScanStuck) → IsPackedOn times before name region files result after → ended ≡ end_of result → IsEndOf times before after name region files ended

-- That is said of the packing. A fault is the store's own, and there is no damage where the store told a sound tree in which the container of the name has
-- only units.
pub record IsPackedAs (name : List ℕ) (region : ℕ) (files : List NamedFile) (ended : PackEnd) (e : Ends) : Type 0 where
  pub after : Stored
  pub left : e.stored_after ≡ Some after
  pub came : IsEndOf e.times e.stored after name region files ended
  pub cause : is_broken_by is_fault ended ≡ true → HasRisen e.stored.faults after.faults
  pub undamaged : IsLogicalName name → TellsUnitsOf e.stored name → is_broken_by is_damage ended ≡ false

-- caller 0 by itself packed these files, or was broken off
abbrev pub HasBegunToPack : List ℕ → ℕ → List NamedFile → State → State → Type 0
HasBegunToPack name region files start end = ((result : Result Packed ScanStuck) × Packs name region files start result end) ⊎ BeginsToPack name region files start end

-- What becomes of it: one line is printed, or a front of it where the sink broke. Where memory was refused there is none.
pub data PackCourse (name : List ℕ) (region : ℕ) (files : List NamedFile) (e : Ends) (status : ℕ) : Type 0 where
  printed : (ended : PackEnd) → IsPackedAs name region files ended e → IsPrinted (packed_text files ended) e.taking e.taking_after → status ≡ packed_status ended → PackCourse name region files e status
  cut_off : (ended : PackEnd) → IsPackedAs name region files ended e → IsCutOff (packed_text files ended) e.taking e.taking_after → status ≡ 6 → PackCourse name region files e status
  exhausted : IsStoreLeft (HasBegunToPack name region files) e → e.taking_after ≡ e.taking → status ≡ 3 → PackCourse name region files e status

-- What becomes of an input of these bytes, whose files are packed. Memory was refused before the mounting where it is starved.
pub data PackInputCourse (name : List ℕ) (region : ℕ) (bytes : List ℕ) (e : Ends) (status : ℕ) : Type 0 where
  faulty : (fault : Fault) → HasFault bytes fault → IsUntouched e → IsSaid (pack_fault_line fault) e → status ≡ 2 → PackInputCourse name region bytes e status
  packed : (files : List NamedFile) → IsInput bytes files → PackCourse name region files e status → PackInputCourse name region bytes e status
  starved : IsUntouched e → e.taking_after ≡ e.taking → status ≡ 3 → PackInputCourse name region bytes e status

-- ---- on a mount

-- so these files were packed, and that was reported; or memory was refused in it
pub data PacksOn (name : List ℕ) (region : ℕ) (files : List NamedFile) (start : State) (taking : Taking) (end : State) (taking_after : Taking) (status : ℕ) : Type 0 where
  ended_so : (result : Result Packed ScanStuck) → Packs name region files start result end → IsReported (packed_text files (end_of result)) (packed_status (end_of result)) taking taking_after status
      → PacksOn name region files start taking end taking_after status
  broke_off : BeginsToPack name region files start end → taking_after ≡ taking → status ≡ 3 → PacksOn name region files start taking end taking_after status
