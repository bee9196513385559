-- Which lines a script has when it is played, and when it is run.
use Rattle.std.specs.Prelude.{◌≡◌, List, length, map}
use Rattle.mount_model.specs.State.{State}
use Rattle.mount_model.specs.History.{Event}
use Rattle.script_lang.specs.declared.line.Line.{Line}
use Rattle.script_lang.specs.declared.script.Script.{Script}
use Rattle.mount_model.specs.MakesCalls.{MakesCalls}
use Rattle.mount_model.specs.Performers.{left_of, told_by_each}
use Rattle.mount_model.specs.InTurns.{InTurns}
use Rattle.run_core.specs.Written.{is_greeting, whose, written_of}
use Rattle.run_core.specs.Cast.{cast, statements_in}
use Rattle.run_core.specs.Leading.{Leads}
use Rattle.mount_core.specs.Memory.{HadMemory}

-- A play: the script's actors make their calls in the order of the written turns, which leads from one state of the mount to the other, and these are the
-- lines of the statements as they are written.
pub record IsPlay (script : Script) (start : State) (lines : List Line) (end : State) : Type 0 where
  pub history : List Event
  pub leads : Leads start history end
  pub had_memory : HadMemory history
  pub in_turns : InTurns is_greeting (map written_of script.phases) (cast script) history lines

-- Right lines: in some order of calls, which leads from one state to the other, the script's actors make their calls and nobody else calls, all calls of
-- one phase before those of the next, and each actor tells the lines of its statements; there is one line for each statement.
pub record IsRight (script : Script) (start : State) (lines : List Line) (end : State) : Type 0 where
  pub history : List Event
  pub leads : Leads start history end
  pub had_memory : HadMemory history
  pub calls : MakesCalls (left_of (cast script)) history (told_by_each 0 script.actors (whose (statements_in script.phases)) lines)
  pub long : length lines ≡ length (statements_in script.phases)
