-- What the numbers of an actor's syncs and closes count, by its lines alone.
use Rattle.std.specs.Prelude.{◌≡◌, ⊤, ℕ, ◌+◌, List, [], ◌∷◌, Some, slice_get}
use Rattle.script_lang.specs.declared.line.Line.{Line}
use Rattle.script_lang.specs.declared.line.Outcome.{Outcome}
use Rattle.script_lang.specs.declared.line.Outcome.TheVariants.{Closed, Opened, Synced, Wrote}
use Rattle.script_lang.specs.declared.script.ActorDecl.{ActorDecl}
use Rattle.script_lang.specs.declared.script.Script.{Script}
use Rattle.mount_model.specs.Performers.{told_at}
use Rattle.run_core.specs.Cast.{statements_in}
use Rattle.run_core.specs.Written.{whose}

-- how many writes the actor's writer has after a line: none where it is opened, and one more where one was written, with its stamp
abbrev pub written_after : ℕ → Outcome → ℕ
written_after count (Opened id) = 0
written_after count (Wrote place len (Some stamp)) = count + 1
written_after count other = count

-- the number of a sync or of a close is this one
abbrev pub TellsCount : ℕ → Outcome → Type 0
TellsCount count (Synced landed) = landed ≡ count
TellsCount count (Closed landed) = landed ≡ count
TellsCount count other = ⊤

-- so it is of each line, where so many writes came before these
abbrev pub TellCounts : ℕ → List Line → Type 0
TellCounts count [] = ⊤
TellCounts count (line ∷ lines) = TellsCount count line.outcome × TellCounts (written_after count line.outcome) lines

-- The number of each `synced` and each `closed` line of an actor is that of its `wrote` lines with a stamp since it last opened a writer.
abbrev pub CountWrites : Script → List Line → Type 0
CountWrites script lines = (place : ℕ) (declared : ActorDecl) → slice_get script.actors place ≡ Some declared → TellCounts 0 (told_at place (whose (statements_in script.phases)) lines)
