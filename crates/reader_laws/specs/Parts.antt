-- The parts of a read, and what their writers had issued.
use Rattle.std.specs.Prelude.{◌≡◌, ◌≤◌, ◌+◌, ℕ, List, length}
use Rattle.std.specs.List.{Any}
use Rattle.read_plan.specs.declared.part.Part.{Part}
use Rattle.read_plan.specs.declared.part.Part.TheVariants.{Hole, From}
use Rattle.mount_sound.specs.Ledger.{content}
use Rattle.reader_laws.specs.Moments.{Moment, issued_by}
use Rattle.reader_laws.specs.Gathering.{Gathered}

-- at least one byte of a gathered writer's log, which it had issued by then
pub record IsOfLog (end : Moment) (writer at len : ℕ) (g : Gathered) : Type 0 where
  pub log_of : g.dropping.writer ≡ writer
  pub some : 1 ≤ len
  pub within : at + len ≤ length (content (issued_by end g.dropping))

-- a hole, or bytes of the log of one of the cut
abbrev pub IsPartOf : Moment → List Gathered → Part → Type 0
IsPartOf end cut (Hole len) = Unit {0}
IsPartOf end cut (From writer at len) = Any (IsOfLog end writer at len) cut
