-- Each statement of a plain machine, in one step.
use Rattle.std.specs.Prelude.{ℕ}
use Rattle.script_lang.specs.declared.line.Outcome.{Outcome}
use Rattle.script_lang.specs.declared.script.ActorDecl.{ActorDecl}
use Rattle.script_lang.specs.declared.script.Statement.{Statement}
use Rattle.script_lang.specs.declared.script.Statement.TheVariants.{Close, Flatten, Ls, Map, Open, Rclose, Read, Recover, Refresh, Rename, Ropen, Stat, Stop as Arms, Sync, Trunc, Verify, Write}
use Rattle.outcomes.specs.Data.{bytes_of}
use Rattle.plain_machine.specs.Machine.{Plain, PlainActor}
use Rattle.plain_machine.specs.Writers.{Closes, Opens, Syncs, Writes}
use Rattle.plain_machine.specs.Readers.{ClosesReader, Maps, OpensReader, Reads, Refreshes, Verifies}
use Rattle.plain_machine.specs.ByName.{Flattens, Lists, Recovers, Renames, Tells, Truncates}

-- The actor at this place, which is declared so, makes the statement: this is its outcome, and so is the machine then. Stops are none of its statements.
abbrev pub Takes : ℕ → ActorDecl → PlainActor → Plain → Statement → Outcome → Plain → Type 0
Takes place declared actor p (Open name) outcome new = Opens place declared actor p name outcome new
Takes place declared actor p (Write at content) outcome new = Writes actor p at (bytes_of content) outcome new
Takes place declared actor p Sync outcome new = Syncs actor p outcome new
Takes place declared actor p Close outcome new = Closes place actor p outcome new
Takes place declared actor p (Ropen name workers) outcome new = OpensReader place actor p name outcome new
Takes place declared actor p (Read at len) outcome new = Reads actor p at len outcome new
Takes place declared actor p (Verify at content) outcome new = Verifies actor p at content outcome new
Takes place declared actor p Map outcome new = Maps actor p outcome new
Takes place declared actor p Refresh outcome new = Refreshes place actor p outcome new
Takes place declared actor p Rclose outcome new = ClosesReader place actor p outcome new
Takes place declared actor p (Stat name) outcome new = Tells p name outcome new
Takes place declared actor p (Trunc name size) outcome new = Truncates p name size outcome new
Takes place declared actor p (Rename name to) outcome new = Renames p name to outcome new
Takes place declared actor p (Flatten name) outcome new = Flattens p name outcome new
Takes place declared actor p (Recover name) outcome new = Recovers p name outcome new
Takes place declared actor p Ls outcome new = Lists p outcome new
Takes place declared actor p (Arms call bytes) outcome new = ⊥
