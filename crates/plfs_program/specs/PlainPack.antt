-- Small files that are packed as a plain machine has it.
use Rattle.std.specs.Prelude.{ℕ, ◌≡◌, List, [], ◌∷◌, ◌++◌, length, Some, Result, Ok, Err, codes}
use Rattle.std.specs.Fmt.{decimal}
use Rattle.edge_io.specs.Sink.{Taking}
use Rattle.store_api.specs.declared.tree.Tree.{Tree}
use Rattle.store_api.specs.Acts.{Stored}
use Rattle.script_lang.specs.declared.line.Outcome.TheVariants.{Damaged, Refused}
use Rattle.script_lang.specs.declared.line.Why.TheVariants.{MountsSpent}
use Rattle.report_text.specs.Text.{text_of}
use Rattle.mount_model.specs.declared.stuck.Stuck.TheVariants as stuck
use Rattle.pack_files.specs.declared.scan.ScanStuck.{ScanStuck}
use Rattle.pack_files.specs.declared.scan.ScanStuck.TheVariants.{Bad, Stuck}
use Rattle.pack_input.specs.declared.files.NamedFile.{NamedFile}
use Rattle.lone_flow.specs.declared.packing.Packed.{Packed}
use Rattle.lone_flow.specs.declared.packing.Packed.TheVariants.{All, Full}
use Rattle.outcomes.specs.Outcomes.{why_of}
use Rattle.plain_machine.specs.Machine.{Plain}
use Rattle.plain_plays.specs.OverStores.{BeginsOver, MountsAs}
use Rattle.plain_plays.specs.Packings.{HasByteFile, PacksPlainly, packer_script}
use Rattle.program_ends.specs.Ends.{Ends}
use Rattle.program_ends.specs.Mounting.{AreSpent, listed_marks}
use Rattle.program_ends.specs.Output.{IsPrinted}
use Rattle.program_ends.specs.Reported.{line_zero}
use Rattle.program_ends.specs.SoundTrees.{TellsSoundTree}

-- One line is printed, and it decides the status: how many files were put and where the last one ends, that the region is full, why a statement was refused, or
-- which place of the file breaks a rule.
abbrev pub SaysPacked : List NamedFile → Result Packed ScanStuck → Taking → Taking → ℕ → Type 0
SaysPacked files (Ok (All end)) taking taking_after status = IsPrinted (codes "packed " ++ (decimal (length files) ++ (codes " end " ++ (decimal end ++ codes "\n")))) taking taking_after × (status ≡ 0)
SaysPacked files (Ok Full) taking taking_after status = IsPrinted (codes "0 refused region-full\n") taking taking_after × (status ≡ 1)
SaysPacked files (Err (Bad place)) taking taking_after status = IsPrinted (text_of (line_zero (Damaged [] (codes "view") place) ∷ [])) taking taking_after × (status ≡ 7)
SaysPacked files (Err (Stuck (stuck.Refused why))) taking taking_after status = IsPrinted (text_of (line_zero (Refused (why_of why)) ∷ [])) taking taking_after × (status ≡ 1)
SaysPacked files (Err (Stuck other)) taking taking_after status = ⊥

-- The machine's actor packed the files, and that is said of how it ended. What is left of the store has what the machine has then.
pub record IsPackedBy (name : List ℕ) (region : ℕ) (files : List NamedFile) (p : Plain) (after : Stored) (e : Ends) (status : ℕ) : Type 0 where
  pub told : Result Packed ScanStuck
  pub packs : PacksPlainly name region files p told after
  pub says : SaysPacked files told e.taking e.taking_after status

-- Over a store with a sound tree: no mark is left, which line 0 says alone. Or a plain machine begins with each mount of the store, and its actor packs the files
-- where the machine's file has bytes.
pub data IsPackedOverSound (name : List ℕ) (region : ℕ) (files : List NamedFile) (after : Stored) (e : Ends) (status : ℕ) : Type 0 where
  spent : (tree : Tree) → e.stored.tree ≡ Some tree → AreSpent (listed_marks tree) → IsPrinted (text_of (line_zero (Refused MountsSpent) ∷ [])) e.taking e.taking_after → status ≡ 1 → IsPackedOverSound name region files after e status
  packed : (p : Plain) → MountsAs (packer_script []) e.times e.stored p → (HasByteFile p name → IsPackedBy name region files p after e status) → IsPackedOverSound name region files after e status

-- The files are packed as each plain machine has it that begins over the store, and whose file has bytes. Over a sound tree a machine begins, unless no mark is left.
pub record IsPackedPlainly (name : List ℕ) (region : ℕ) (files : List NamedFile) (e : Ends) (status : ℕ) : Type 0 where
  pub after : Stored
  pub left : e.stored_after ≡ Some after
  pub plain : (p : Plain) → BeginsOver (packer_script []) e.times e.stored p → HasByteFile p name → IsPackedBy name region files p after e status
  pub sound : TellsSoundTree e.stored → IsPackedOverSound name region files after e status
