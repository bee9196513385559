-- A file that is written out as a plain machine has it.
use Rattle.std.specs.Prelude.{ℕ, ◌≡◌, List, [], ◌∷◌, Option, Some, None, option_map, slice_get}
use Rattle.edge_io.specs.Sink.{Taking}
use Rattle.store_api.specs.declared.tree.Tree.{Tree}
use Rattle.store_api.specs.Acts.{Stored}
use Rattle.script_lang.specs.declared.line.Line.{Line}
use Rattle.script_lang.specs.declared.line.Outcome.TheVariants.{Refused}
use Rattle.script_lang.specs.declared.line.Why.TheVariants.{MountsSpent, NoFile}
use Rattle.report_text.specs.Text.{text_of}
use Rattle.plain_machine.specs.Machine.{Plain, PlainReader}
use Rattle.plain_machine.specs.Finding.{find}
use Rattle.plain_machine.specs.Landed.{bytes_seen, file_of}
use Rattle.plain_plays.specs.OverStores.{BeginsOver, IsSaidOver, MountsAs}
use Rattle.program_ends.specs.Ends.{Ends}
use Rattle.program_ends.specs.Mounting.{AreSpent, listed_marks}
use Rattle.program_ends.specs.Output.{IsPrinted}
use Rattle.program_ends.specs.Reported.{line_zero}
use Rattle.program_ends.specs.SoundTrees.{TellsSoundTree}
use Rattle.plfs_program.specs.Cat.{cat_script}

-- the file of the room of this number, if any
abbrev pub file_under : Plain → Option ℕ → Option PlainReader
file_under p None = None
file_under p (Some number) = option_map (file_of number) (slice_get p.rooms number)

-- the machine's file of this name, as a reader would see it that opens it now
abbrev pub file_named : Plain → List ℕ → Option PlainReader
file_named p name = file_under p (find p name)

-- The bytes of the file are printed: all of them, in their order. Where there is no file, line 0 says so.
abbrev pub WritesFile : Option PlainReader → Taking → Taking → ℕ → Type 0
WritesFile None taking taking_after status = IsPrinted (text_of (line_zero (Refused NoFile) ∷ [])) taking taking_after × (status ≡ 1)
WritesFile (Some file) taking taking_after status = IsPrinted (bytes_seen file) taking taking_after × (status ≡ 0)

-- The machine's file is written out. One actor opened it and read so many pieces, with the lines that the machine says. What is left of the store has what the
-- machine has then.
pub record IsWrittenAs (name : List ℕ) (p : Plain) (after : Stored) (e : Ends) (status : ℕ) : Type 0 where
  pub writes : WritesFile (file_named p name) e.taking e.taking_after status
  pub count : ℕ
  pub lines : List Line
  pub says : IsSaidOver (cat_script name count) p lines after

-- Over a store with a sound tree: no mark is left, which line 0 says alone. Or a plain machine begins with each mount of the store, and its file is written out.
pub data IsWrittenOverSound (name : List ℕ) (after : Stored) (e : Ends) (status : ℕ) : Type 0 where
  spent : (tree : Tree) → e.stored.tree ≡ Some tree → AreSpent (listed_marks tree) → IsPrinted (text_of (line_zero (Refused MountsSpent) ∷ [])) e.taking e.taking_after → status ≡ 1 → IsWrittenOverSound name after e status
  written : (p : Plain) → MountsAs (cat_script name 0) e.times e.stored p → IsWrittenAs name p after e status → IsWrittenOverSound name after e status

-- The file is written out as each plain machine has it that begins over the store. Over a sound tree there is one, unless no mark is left.
pub record IsWrittenPlainly (name : List ℕ) (e : Ends) (status : ℕ) : Type 0 where
  pub after : Stored
  pub left : e.stored_after ≡ Some after
  pub plain : (p : Plain) → BeginsOver (cat_script name 0) e.times e.stored p → IsWrittenAs name p after e status
  pub sound : TellsSoundTree e.stored → IsWrittenOverSound name after e status
