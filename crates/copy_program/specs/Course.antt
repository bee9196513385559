-- How a run goes, from its words to its status.
use Rattle.std.specs.Prelude.{◌≡◌, ℕ, Bool, List, [], ◌∷◌, codes}
use Rattle.edge_io.specs.Source.{Given}
use Rattle.plfs_program.specs.Commands.{IsBuiltCommand}
use Rattle.plfs_program.specs.Course.{Course}
use Rattle.program_ends.specs.Ends.{Ends, IsSaid, IsUntouched}
use Rattle.copy_program.specs.declared.words.CopyCommand.{CopyCommand}
use Rattle.copy_program.specs.declared.words.CopyCommand.TheVariants.{Put, Get}
use Rattle.put_program.specs.Putting.{PutCourse}
use Rattle.copy_program.specs.Words.{IsCopyCommand}

abbrev pub usage_line : List ℕ
usage_line = codes "usage: plfs_copy ROOT put NAME [HOST] [--over] [--from FILE..]|get NAME|import DIR [HOST] [--over]|export DIR [--over]\n"

-- what becomes of `cat` with this name
abbrev pub GetCourse : List ℕ → Given → Given → Ends → ℕ → Type 0
GetCourse name given given_after e status = Course IsBuiltCommand (codes "cat" ∷ name ∷ []) given given_after e status

-- What becomes of a run: one case for each command, and one for other words.
pub data CopyCourse (words : List (List ℕ)) (given given_after : Given) (e : Ends) (status : ℕ) : Type 0 where
  usage : ((command : CopyCommand) → IsCopyCommand words command → ⊥) → given_after ≡ given → IsUntouched e → IsSaid usage_line e → status ≡ 2 → CopyCourse words given given_after e status
  puts : (name : List ℕ) (host : ℕ) (over : Bool) → IsCopyCommand words (Put name host over) → PutCourse name host over given given_after e status → CopyCourse words given given_after e status
  gets : (name : List ℕ) → IsCopyCommand words (Get name) → GetCourse name given given_after e status → CopyCourse words given given_after e status
