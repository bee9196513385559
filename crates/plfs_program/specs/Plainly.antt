-- Runs that print what a plain machine says.
use Rattle.std.specs.Prelude.{ℕ, ◌≡◌, List, [], ◌∷◌, Option, Some}
use Rattle.edge_io.specs.Source.{Given}
use Rattle.store_api.specs.declared.tree.Tree.{Tree}
use Rattle.store_api.specs.Acts.{Stored}
use Rattle.command_line.specs.Commands.{IsCommand}
use Rattle.command_line.specs.declared.commands.Command.{Command}
use Rattle.command_line.specs.declared.commands.Command.TheVariants.{Cat, Migrate, Names, Pack, Play, Unpack}
use Rattle.script_lang.specs.Grammar.{IsScript}
use Rattle.script_lang.specs.declared.line.Line.{Line}
use Rattle.script_lang.specs.declared.line.Outcome.TheVariants.{Refused}
use Rattle.script_lang.specs.declared.line.Why.TheVariants.{MountsSpent}
use Rattle.script_lang.specs.declared.script.Script.{Script}
use Rattle.pack_input.specs.Input.{IsInput}
use Rattle.pack_input.specs.declared.files.NamedFile.{NamedFile}
use Rattle.plain_plays.specs.OverStores.{TellsOfOne, TellsPlainly}
use Rattle.program_ends.specs.Ends.{Ends}
use Rattle.program_ends.specs.Mounting.{AreSpent, listed_marks}
use Rattle.program_ends.specs.Outcomes.{status_of}
use Rattle.program_ends.specs.Output.{IsPrinted}
use Rattle.program_ends.specs.Reported.{line_zero}
use Rattle.program_ends.specs.SoundTrees.{TellsSoundTree}
use Rattle.plfs_program.specs.Commands.{IsPlanned}
use Rattle.plfs_program.specs.PlainCat.{IsWrittenPlainly}
use Rattle.plfs_program.specs.PlainMigrate.{IsMigratedPlainly}
use Rattle.plfs_program.specs.PlainPack.{IsPackedPlainly}
use Rattle.plfs_program.specs.PlainSmall.{AreNamedPlainly, IsUnpackedPlainly}
use Rattle.plfs_program.specs.Playing.{IsPlayedAs}
use Rattle.plfs_program.specs.Showing.{Shows, all_lines, shows_of}
use Rattle.plfs_program.specs.Ways.{by_turns}
use Rattle.plfs_program.specs.declared.commands.Plan.{Plan}

-- The words ask that this script be played by turns, and that this be shown of its lines. It is the one that the input's bytes are, or that of a command's plan.
pub data AskToPlay (words : List (List ℕ)) (given : Given) (script : Script) (shows : Shows) : Type 0 where
  of_input : (bytes : List ℕ) → IsCommand words Play → given.left ≡ Some bytes → IsScript bytes script → shows ≡ all_lines → AskToPlay words given script shows
  of_plan : (command : Command) (plan : Plan) → IsCommand words command → IsPlanned command plan → script ≡ plan.script → shows ≡ shows_of plan.shown → AskToPlay words given script shows

-- Over a store with a sound tree: no mark is left, which line 0 says alone. Or a plain machine begins with each mount of the store, and says the lines of a script
-- that has no `turn` and no `stop` lines.
pub data SaysOverSound (script : Script) (times : Option (List ℕ)) (opened : Stored) (lines : List Line) (after : Stored) : Type 0 where
  spent : (tree : Tree) → opened.tree ≡ Some tree → AreSpent (listed_marks tree) → lines ≡ line_zero (Refused MountsSpent) ∷ [] → SaysOverSound script times opened lines after
  said : TellsOfOne script times opened lines after → SaysOverSound script times opened lines after

-- The script was played by turns. What is shown of its lines was printed whole, and they decide the status. If the script has no `turn` and no `stop` lines, each
-- plain machine that begins over the store says these lines. Over a sound tree there is one, unless no mark is left.
pub record PrintsPlainly (script : Script) (shows : Shows) (e : Ends) (status : ℕ) : Type 0 where
  pub lines : List Line
  pub are : IsPlayedAs by_turns script lines e
  pub plain : TellsPlainly script e.times e.stored lines are.after
  pub sound : TellsSoundTree e.stored → SaysOverSound script e.times e.stored lines are.after
  pub printed : IsPrinted (shows.text lines) e.taking e.taking_after
  pub decide : status ≡ status_of (shows.decide lines)

-- What is shown of a script that the words ask for is what a plain machine says of it. A file that they ask for is written out as a plain machine has it, and so are
-- small files of it read. Those of the input are packed as an actor of the machine writes them. A migration leaves the machine its files.
pub record GoesPlainly (words : List (List ℕ)) (given : Given) (e : Ends) (status : ℕ) : Type 0 where
  pub plays : (script : Script) (shows : Shows) → AskToPlay words given script shows → PrintsPlainly script shows e status
  pub cats : (name : List ℕ) → IsCommand words (Cat name) → IsWrittenPlainly name e status
  pub unpacks : (name file : List ℕ) → IsCommand words (Unpack name file) → IsUnpackedPlainly name file e status
  pub names : (name : List ℕ) → IsCommand words (Names name) → AreNamedPlainly name e status
  pub migrates : (name : List ℕ) → IsCommand words (Migrate name) → IsMigratedPlainly name e status
  pub packs : (name : List ℕ) (region : ℕ) (bytes : List ℕ) (files : List NamedFile) → IsCommand words (Pack name region) → given.left ≡ Some bytes → IsInput bytes files → IsPackedPlainly name region files e status
