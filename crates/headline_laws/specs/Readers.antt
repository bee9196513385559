-- What the lines of a play show of the files that its readers have, and of its writers.
use Rattle.std.specs.Prelude.{◌≡◌, ℕ, List, [], ◌∷◌, ◌++◌, Option, Some, None, slice_get}
use Rattle.mount_model.specs.declared.call.Ask.{Ask}
use Rattle.mount_model.specs.declared.reply.Reply.{Reply}
use Rattle.mount_model.specs.State.{State}
use Rattle.mount_model.specs.History.{Event}
use Rattle.mount_model.specs.MakesCalls.{Role}
use Rattle.mount_model.specs.Performers.{told_at}
use Rattle.script_lang.specs.declared.line.Line.{Line}
use Rattle.script_lang.specs.declared.script.ActorDecl.{ActorDecl}
use Rattle.script_lang.specs.declared.script.Numbered.{Numbered}
use Rattle.script_lang.specs.declared.script.Script.{Script}
use Rattle.run_core.specs.Course.{own}
use Rattle.run_core.specs.Cast.{statements_in}
use Rattle.run_core.specs.Written.{whose}
use Rattle.run_core.specs.Play.{IsPlay, IsRight}
use Rattle.mount_sound.specs.Ledger.{Ledger}
use Rattle.mount_sound.specs.Sound.{IsSoundFor}
use Rattle.reader_laws.specs.Moments.{Moment}
use Rattle.headline_laws.specs.OneFile.{OneFile}
use Rattle.headline_laws.specs.Opening.{Stretch}
use Rattle.headline_laws.specs.Showing.{Shows}
use Rattle.headline_laws.specs.OneWriter.{OneWriter}
use Rattle.headline_laws.specs.Writing.{ShowsWriting}

-- One statement after the other has its part of the stretch, and its line shows so much of the file that the caller has open, and of its writer.
abbrev pub ShowsEach : Moment → ℕ → Stretch → Option OneFile → Option OneWriter → List Numbered → List Line → Type 0
ShowsEach start caller stretch file writer [] lines = lines ≡ []
ShowsEach start caller stretch file writer (s ∷ ss) [] = ⊥
ShowsEach start caller stretch file writer (s ∷ ss) (line ∷ lines) =
    (mine rest : List Event) × (new_file : Option OneFile) × (new_writer : Option OneWriter) × (stretch.events ≡ mine ++ rest) × (line.number ≡ s.line)
    × Shows start caller (record { before = stretch.before; events = mine }) file s.statement line.outcome new_file
    × ShowsWriting start caller (record { before = stretch.before; events = mine }) writer s.statement line.outcome new_writer
    × ShowsEach start caller (record { before = stretch.before ++ mine; events = rest }) new_file new_writer ss lines

-- The lines of each declared actor show so, in the history in which all make their calls. It has no file open at first, and no writer.
abbrev pub ReadersShow : (script : Script) (start : Moment) (lines : List Line) (end : State) → IsRight script start.state lines end → Type 0
ReadersShow script start lines end right = (place : ℕ) (declared : ActorDecl) → slice_get script.actors place ≡ Some declared →
    (role : Role Ask Reply State) × (slice_get right.calls.roles place ≡ Some role)
    × ShowsEach start role.number (record { before = []; events = right.history }) None None (own place (statements_in script.phases)) (told_at place (whose (statements_in script.phases)) lines)

-- The lines of a play are right by the play's own calls, and show so, for what had been issued before the play.
pub record PlayShows (script : Script) (start : State) (lines : List Line) (end : State) (play : IsPlay script start lines end) : Type 0 where
  pub issued : Ledger
  pub sound : IsSoundFor issued start
  pub right : IsRight script start lines end
  pub same : right.history ≡ play.history
  pub show : ReadersShow script (record { state = start; issued = issued }) lines end right
