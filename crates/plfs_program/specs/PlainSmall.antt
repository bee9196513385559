-- Small files of a container that are read as a plain machine has them.
use Rattle.std.specs.Prelude.{ℕ, ◌≡◌, List, [], ◌∷◌, Option, Some, None, Result, Ok, Err}
use Rattle.index_entry.specs.Records.{IsBytes}
use Rattle.plain_file.specs.declared.pieces.Piece.{Piece}
use Rattle.plain_file.specs.Runs.{ArePieces}
use Rattle.store_api.specs.declared.tree.Tree.{Tree}
use Rattle.store_api.specs.Acts.{Stored}
use Rattle.mount_model.specs.Paths.{Name}
use Rattle.mount_sound.specs.Ledger.{entries_in}
use Rattle.pack_files.specs.declared.scan.ScanStuck.{ScanStuck}
use Rattle.pack_files.specs.declared.scan.ScanStuck.TheVariants.{Bad}
use Rattle.packing_laws.specs.Told.{HasContent, HasNames, IsFirstBad, LacksName}
use Rattle.script_lang.specs.declared.line.Outcome.TheVariants.{Refused}
use Rattle.script_lang.specs.declared.line.Why.TheVariants.{MountsSpent, NoFile}
use Rattle.script_lang.specs.declared.script.Script.{Script}
use Rattle.report_text.specs.Text.{text_of}
use Rattle.plain_machine.specs.Machine.{Plain, PlainReader}
use Rattle.plain_machine.specs.Landed.{bytes_seen}
use Rattle.plain_plays.specs.OverStores.{BeginsOver, MountsAs}
use Rattle.program_ends.specs.Ends.{Ends}
use Rattle.program_ends.specs.Mounting.{AreSpent, listed_marks}
use Rattle.program_ends.specs.Output.{IsPrinted}
use Rattle.program_ends.specs.Reported.{line_zero}
use Rattle.program_ends.specs.SoundTrees.{TellsSoundTree}
use Rattle.plfs_program.specs.PlainCat.{file_named}
use Rattle.plfs_program.specs.PlainLeft.{IsLeftWith}
use Rattle.plfs_program.specs.SmallFiles.{Told, told_of_file, told_of_names, told_status, told_text}

-- ---- what stands in a file

-- what of a file, by its pieces and its bytes, is told, or the first place that breaks a rule of units
abbrev pub Finds : Type 0 → Type 1
Finds R = List Piece → List ℕ → Result R ℕ → Type 0

-- the content of the small file of this name, or none where no unit has the name
abbrev pub TellsContent : Name → List Piece → List ℕ → Result (Option (List ℕ)) ℕ → Type 0
TellsContent name pieces bytes (Ok None) = LacksName pieces bytes name
TellsContent name pieces bytes (Ok (Some content)) = HasContent pieces bytes name content
TellsContent name pieces bytes (Err place) = IsFirstBad pieces bytes place

abbrev pub TellsAllNames : List Piece → List ℕ → Result (List Name) ℕ → Type 0
TellsAllNames pieces bytes (Ok names) = HasNames pieces bytes names
TellsAllNames pieces bytes (Err place) = IsFirstBad pieces bytes place

abbrev pub as_scanned : {R : Type 0} → Result R ℕ → Result R ScanStuck
as_scanned (Ok found) = Ok found
as_scanned (Err place) = Err (Bad place)

-- That stands in the machine's file, whose pieces these are.
pub record StandsInFile {R : Type 0} (Stands : Finds R) (file : PlainReader) (found : Result R ℕ) : Type 0 where
  pub pieces : List Piece
  pub are : ArePieces (entries_in file.writes) file.truncs pieces
  pub stands : Stands pieces (bytes_seen file) found

-- There is no such file, which is told. Or it is told what stands in the file, where that has bytes, numbers below 256.
abbrev pub ToldPlainly : {R : Type 0} → Finds R → (Result R ScanStuck → Told) → Option PlainReader → Told → Type 0
ToldPlainly Stands tells None told = told ≡ Err (Refused NoFile)
ToldPlainly {R} Stands tells (Some file) told = IsBytes (bytes_seen file) → (found : Result R ℕ) × StandsInFile Stands file found × (told ≡ tells (as_scanned found))

-- ---- a run

-- What is told of the machine's file of this name was printed, and decides the status. The machine is as it was, and what is left of the store has what it has.
pub record IsToldBy {R : Type 0} (Stands : Finds R) (tells : Result R ScanStuck → Told) (name : List ℕ) (p : Plain) (after : Stored) (e : Ends) (status : ℕ) : Type 0 where
  pub told : Told
  pub is : ToldPlainly Stands tells (file_named p name) told
  pub printed : IsPrinted (told_text told) e.taking e.taking_after
  pub decides : status ≡ told_status told
  pub leaves : IsLeftWith p after

-- Over a store with a sound tree: no mark is left, which line 0 says alone. Or a plain machine begins with each mount of the store, and its file is told of.
pub data IsToldOverSound {R : Type 0} (Stands : Finds R) (tells : Result R ScanStuck → Told) (name : List ℕ) (script : Script) (after : Stored) (e : Ends) (status : ℕ) : Type 0 where
  spent : (tree : Tree) → e.stored.tree ≡ Some tree → AreSpent (listed_marks tree) → IsPrinted (text_of (line_zero (Refused MountsSpent) ∷ [])) e.taking e.taking_after → status ≡ 1 → IsToldOverSound Stands tells name script after e status
  told_so : (p : Plain) → MountsAs script e.times e.stored p → IsToldBy Stands tells name p after e status → IsToldOverSound Stands tells name script after e status

-- The file is told of as each plain machine has it that begins over the store, with the actors of whatever script. Over a sound tree there is one, unless no mark
-- is left.
pub record IsReadPlainly {R : Type 0} (Stands : Finds R) (tells : Result R ScanStuck → Told) (name : List ℕ) (e : Ends) (status : ℕ) : Type 0 where
  pub after : Stored
  pub left : e.stored_after ≡ Some after
  pub plain : (script : Script) (p : Plain) → BeginsOver script e.times e.stored p → IsToldBy Stands tells name p after e status
  pub sound : (script : Script) → TellsSoundTree e.stored → IsToldOverSound Stands tells name script after e status

-- ---- the two commands

abbrev pub IsUnpackedPlainly : List ℕ → List ℕ → Ends → ℕ → Type 0
IsUnpackedPlainly name file = IsReadPlainly (TellsContent file) told_of_file name

abbrev pub AreNamedPlainly : List ℕ → Ends → ℕ → Type 0
AreNamedPlainly name = IsReadPlainly TellsAllNames told_of_names name
