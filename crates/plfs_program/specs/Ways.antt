-- How a script's actors make their calls, and which lines the script then has.
use Rattle.std.specs.Prelude.{◌⊎◌, List}
use Rattle.mount_model.specs.State.{State}
use Rattle.mount_sound.specs.Ledger.{Ledger}
use Rattle.mount_sound.specs.Sound.{IsSoundFor}
use Rattle.command_line.specs.declared.commands.Command.{Command}
use Rattle.command_line.specs.declared.commands.Command.TheVariants.{Play, Run}
use Rattle.script_lang.specs.declared.line.Line.{Line}
use Rattle.script_lang.specs.declared.script.Script.{Script}
use Rattle.run_core.specs.Breaking.{IsPlayBroken}
use Rattle.run_core.specs.Play.{IsPlay, IsRight}
use Rattle.thread_runs.specs.Closing.{BeginsToRun}
use Rattle.headline_laws.specs.Readers.{PlayShows, ReadersShow}

-- in the order of the written turns, or each on a thread of its own
pub data Way : Type 0 where
  by_turns : Way
  on_threads : Way

-- the command that has the script of the input made so
abbrev pub command_of : Way → Command
command_of by_turns = Play
command_of on_threads = Run

-- by turns the lines are those of a play, on threads they are right
abbrev pub HasLines : Way → Script → State → List Line → State → Type 0
HasLines by_turns script start lines end = IsPlay script start lines end
HasLines on_threads script start lines end = IsRight script start lines end

-- It was broken off, since memory was wanting. By turns the calls are a front of a play's; on threads each actor makes those of its course as far as it comes.
abbrev pub IsBrokenOff : Way → Script → State → State → Type 0
IsBrokenOff by_turns script start end = IsPlayBroken script start end
IsBrokenOff on_threads script start end = BeginsToRun script.actors script.phases start end

-- the script was played so to its end, or until it was broken off
abbrev pub HasBegun : Way → Script → State → State → Type 0
HasBegun way script start end = ((lines : List Line) × HasLines way script start lines end) ⊎ IsBrokenOff way script start end

-- The lines of the actors show so, for what had been issued before.
pub record RightShows (script : Script) (start : State) (lines : List Line) (end : State) (right : IsRight script start lines end) : Type 0 where
  pub issued : Ledger
  pub sound : IsSoundFor issued start
  pub show : ReadersShow script (record { state = start; issued = issued }) lines end right

-- either way the lines of each reader are those of one plain file, and those of each writer show what it wrote, synced and closed
abbrev pub ShowsFiles : (way : Way) (script : Script) (start : State) (lines : List Line) (end : State) → HasLines way script start lines end → Type 0
ShowsFiles by_turns script start lines end play = PlayShows script start lines end play
ShowsFiles on_threads script start lines end right = RightShows script start lines end right
