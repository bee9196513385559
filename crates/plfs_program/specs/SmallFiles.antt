-- What becomes of small files of a container that are read.
use Rattle.std.specs.Prelude.{ℕ, ◌≡◌, ◌⊎◌, List, [], ◌∷◌, ◌++◌, Option, Some, None, Result, Ok, Err, true, false, codes}
use Rattle.plfs_types.specs.Counts.{HasRisen}
use Rattle.plfs_types.specs.Names.{IsLogicalName}
use Rattle.edge_io.specs.Sink.{Taking}
use Rattle.store_api.specs.Acts.{Stored}
use Rattle.plain_file.specs.declared.pieces.Piece.{Piece}
use Rattle.mount_model.specs.State.{State}
use Rattle.mount_model.specs.Paths.{Name}
use Rattle.mount_model.specs.Mounting.{IsMounted}
use Rattle.mount_model.specs.Failing.{FailsToMount}
use Rattle.mount_model.specs.declared.mount_trouble.MountTrouble.{MountTrouble}
use Rattle.mount_sound.specs.Ledger.{Ledger}
use Rattle.mount_sound.specs.Sound.{IsSoundFor}
use Rattle.pack_files.specs.declared.scan.ScanStuck.{ScanStuck}
use Rattle.pack_files.specs.declared.scan.ScanStuck.TheVariants as scan
use Rattle.lone_flow.specs.Looking.{HasLooked}
use Rattle.lone_flow.specs.Naming.{BeginsToName, Names}
use Rattle.lone_flow.specs.Unpacking.{BeginsToUnpack, Unpacks}
use Rattle.packing_laws.specs.Seen.{Sees}
use Rattle.packing_laws.specs.Told.{AreNames, IsContent}
use Rattle.outcomes.specs.Outcomes.{stuck_outcome}
use Rattle.script_lang.specs.declared.line.Outcome.{Outcome}
use Rattle.script_lang.specs.declared.line.Outcome.TheVariants.{Damaged, Refused}
use Rattle.script_lang.specs.declared.line.Why.TheVariants.{NoFile}
use Rattle.report_text.specs.Items.{list_text}
use Rattle.report_text.specs.Text.{text_of}
use Rattle.program_ends.specs.Ends.{Ends}
use Rattle.program_ends.specs.Reported.{IsReported, line_zero}
use Rattle.program_ends.specs.Outcomes.{is_broken_by}
use Rattle.program_ends.specs.Mounting.{unmounted_of}
use Rattle.program_ends.specs.Outcomes.{is_damage, is_fault, status_of}
use Rattle.program_ends.specs.Output.{IsPrinted, IsCutOff}
use Rattle.program_ends.specs.Leaving.{IsStoreLeft}
use Rattle.program_ends.specs.SoundTrees.{TellsSoundTree}
use Rattle.plfs_program.specs.UnitTrees.{TellsUnitsOf}

-- ---- what is said

-- the text of what was read, or what broke the reading off
abbrev pub Told : Type 0
Told = Result (List ℕ) Outcome

-- the trouble of a call, or the first place of the file that breaks a rule of units
abbrev pub outcome_of : ScanStuck → Outcome
outcome_of (scan.Stuck why) = stuck_outcome why
outcome_of (scan.Bad place) = Damaged [] (codes "view") place

-- the content; and where no small file has the name, that there is no such file
abbrev pub told_of_file : Result (Option (List ℕ)) ScanStuck → Told
told_of_file (Ok None) = Err (Refused NoFile)
told_of_file (Ok (Some content)) = Ok content
told_of_file (Err why) = Err (outcome_of why)

-- the names with a comma between each two
abbrev pub names_line : List Name → List ℕ
names_line names = codes "names " ++ (list_text (λ name. name) names ++ codes "\n")

abbrev pub told_of_names : Result (List Name) ScanStuck → Told
told_of_names (Ok names) = Ok (names_line names)
told_of_names (Err why) = Err (outcome_of why)

abbrev pub told_text : Told → List ℕ
told_text (Ok text) = text
told_text (Err outcome) = text_of (line_zero outcome ∷ [])

abbrev pub told_status : Told → ℕ
told_status (Ok text) = 0
told_status (Err outcome) = status_of (line_zero outcome ∷ [])

-- ---- what was done

-- what a caller by itself does from one state to another, with what it is told
abbrev pub Does : Type 0 → Type 1
Does R = State → Result R ScanStuck → State → Type 0

-- what it has done from one state to another where it was broken off
abbrev pub Begins : Type 1
Begins = State → State → Type 0

-- what of a file, by its pieces and its bytes, is told between two states
abbrev pub Claims : Type 0 → Type 1
Claims R = List Piece → List ℕ → State → State → Result R ScanStuck → Type 0

-- It did so to the end, or was broken off, and made no calls but greetings and looks.
pub record HasBegunToRead {R : Type 0} (Reads : Does R) (Broken : Begins) (start end : State) : Type 0 where
  pub looked : HasLooked start end
  pub begun : ((result : Result R ScanStuck) × Reads start result end) ⊎ Broken start end

-- A mount was made of the store as it was. On it caller 0 by itself read so and was told this, by greetings and looks alone, which led to what is
-- left of the store. Where that told a sound tree, the caller saw one file of the container, and this is told of it.
pub record IsReadOn {R : Type 0} (Reads : Does R) (Holds : Claims R) (times : Option (List ℕ)) (before : Stored) (result : Result R ScanStuck) (after : Stored) : Type 0 where
  pub start : State
  pub end : State
  pub mounted : IsMounted 0 times before start
  pub reads : Reads start result end
  pub looked : HasLooked start end
  pub left : end.store ≡ after
  pub seen : TellsSoundTree before → (issued : Ledger) × IsSoundFor issued start × Sees (record { state = start; issued = issued }) result (λ pieces bytes from. Holds pieces bytes from end result)

-- The mounting broke off, of which that is told; or so it was read, and that is told of it.
pub data IsToldOf {R : Type 0} (Reads : Does R) (Holds : Claims R) (tells : Result R ScanStuck → Told) (times : Option (List ℕ)) (before after : Stored) (told : Told) : Type 0 where
  unmounted : (trouble : MountTrouble) (outcome : Outcome) → FailsToMount before trouble after → unmounted_of trouble ≡ Some outcome → told ≡ Err outcome → IsToldOf Reads Holds tells times before after told
  mounted : (result : Result R ScanStuck) → IsReadOn Reads Holds times before result after → told ≡ tells result → IsToldOf Reads Holds tells times before after told

-- That is told. A fault is the store's own, and there is no damage where the store told a sound tree in which the container of the name has only units.
pub record IsToldAs {R : Type 0} (name : Name) (Reads : Does R) (Holds : Claims R) (tells : Result R ScanStuck → Told) (told : Told) (e : Ends) : Type 0 where
  pub after : Stored
  pub left : e.stored_after ≡ Some after
  pub came : IsToldOf Reads Holds tells e.times e.stored after told
  pub cause : is_broken_by is_fault told ≡ true → HasRisen e.stored.faults after.faults
  pub undamaged : IsLogicalName name → TellsUnitsOf e.stored name → is_broken_by is_damage told ≡ false

-- What becomes of it: the text is printed, or a front of it where the sink broke. Where memory was refused there is none.
pub data ReadCourse {R : Type 0} (name : Name) (Reads : Does R) (Broken : Begins) (Holds : Claims R) (tells : Result R ScanStuck → Told) (e : Ends) (status : ℕ) : Type 0 where
  printed : (told : Told) → IsToldAs name Reads Holds tells told e → IsPrinted (told_text told) e.taking e.taking_after → status ≡ told_status told → ReadCourse name Reads Broken Holds tells e status
  cut_off : (told : Told) → IsToldAs name Reads Holds tells told e → IsCutOff (told_text told) e.taking e.taking_after → status ≡ 6 → ReadCourse name Reads Broken Holds tells e status
  exhausted : IsStoreLeft (HasBegunToRead Reads Broken) e → e.taking_after ≡ e.taking → status ≡ 3 → ReadCourse name Reads Broken Holds tells e status

-- of one small file: its content, or that there is none
abbrev pub UnpackCourse : List ℕ → List ℕ → Ends → ℕ → Type 0
UnpackCourse name file = ReadCourse name (Unpacks name file) (BeginsToUnpack name file) (λ pieces bytes from end result. IsContent pieces bytes file from end result) told_of_file

-- of the names of all
abbrev pub NamesCourse : List ℕ → Ends → ℕ → Type 0
NamesCourse name = ReadCourse name (Names name) (BeginsToName name) AreNames told_of_names

-- ---- on a mount

-- so it was read and told, by greetings and looks alone; or memory was refused in it
pub data ReadsOn {R : Type 0} (Reads : Does R) (Broken : Begins) (tells : Result R ScanStuck → Told) (start : State) (taking : Taking) (end : State) (taking_after : Taking) (status : ℕ) : Type 0 where
  ended_so : (result : Result R ScanStuck) → Reads start result end → HasLooked start end → IsReported (told_text (tells result)) (told_status (tells result)) taking taking_after status → ReadsOn Reads Broken tells start taking end taking_after status
  broke_off : Broken start end → HasLooked start end → taking_after ≡ taking → status ≡ 3 → ReadsOn Reads Broken tells start taking end taking_after status
