-- How a player goes on.
use Rattle.std.specs.Prelude.{◌≡◌, ℕ, ◌+◌, List, [], ◌++◌}
use Rattle.mount_model.specs.State.{State}
use Rattle.mount_model.specs.History.{Event}
use Rattle.mount_model.specs.Turns.{TakesTurn, Finishes}
use Rattle.mount_model.specs.Performers.{performer}
use Rattle.mount_model.specs.InTurns.{ToItsEnd}
use Rattle.script_lang.specs.declared.line.Line.{Line}
use Rattle.actor_core.specs.declared.kept.Kept.{Kept}
use Rattle.actor_core.specs.Progress.{IsIdle}
use Rattle.actor_core.specs.Standings.{progress_of}
use Rattle.run_core.specs.declared.player.Player.{Player}
use Rattle.run_core.specs.Course.{Course}
use Rattle.run_core.specs.Written.{is_greeting}
use Rattle.run_core.specs.Leading.{Leads}
use Rattle.mount_model.specs.History.{AreBy}
use Rattle.mount_core.specs.Memory.{HadMemory}
use Rattle.run_core.specs.Players.{course_left, IsFit, lines_left, waiting_in}

-- within a turn it comes so far: what a turn does from there on, with these calls and lines before it, a turn does from the first
abbrev pub Comes : ℕ → Course → List Event → List Line → Course → Type 0
Comes number old calls told new =
    (more : List Event) (lines : List Line) (left : Course) → TakesTurn is_greeting number new more lines left → TakesTurn is_greeting number old (calls ++ more) (told ++ lines) left

-- it takes its turn
abbrev pub Turns : ℕ → Course → List Event → List Line → Course → Type 0
Turns number old calls told new = TakesTurn is_greeting number old calls told new

-- The player goes on so by calls of its own that lead from one state to the other, whatever follows the pause. Its lines are ahead.
pub record Advances (Change : ℕ → Course → List Event → List Line → Course → Type 0) (old : Player) (start : State) (new : Player) (end : State) : Type 0 where
  pub events : List Event
  pub told : List Line
  pub leads : Leads start events end
  pub had_memory : HadMemory events
  pub by_it : AreBy old.number events
  pub changes : (later : Kept → Course) → Change old.number (course_left old later) events told (course_left new later)
  pub ahead : new.ahead.items ≡ old.ahead.items ++ told
  pub number : new.number ≡ old.number
  pub fit : IsFit new end
  pub left : lines_left new ≡ lines_left old

-- it has no statement in progress, and none to begin in this phase
pub record IsDone (player : Player) : Type 0 where
  pub idle : IsIdle (progress_of player.actor)
  pub none : waiting_in player ≡ []

-- it began its next statement, where it has one
pub record Begins (old new : Player) : Type 0 where
  pub same : (later : Kept → Course) → course_left new later ≡ course_left old later
  pub ahead : new.ahead.items ≡ old.ahead.items
  pub number : new.number ≡ old.number
  pub fit : (state : State) → IsFit old state → IsFit new state
  pub left : lines_left new ≡ lines_left old

-- it came so far with its statement: what carries it to its line from there on, with these calls before it, does so from the first
abbrev pub Nears : ℕ → Course → List Event → Course → Type 0
Nears number old calls new = (more : List Event) (line : Line) (left : Course) → Finishes number new more line left → Finishes number old (calls ++ more) line left

-- the player does so by calls of its own that lead from one state to the other
pub record Approaches (old : Player) (start : State) (new : Player) (end : State) : Type 0 where
  pub events : List Event
  pub leads : Leads start events end
  pub had_memory : HadMemory events
  pub by_it : AreBy old.number events
  pub nears : (later : Kept → Course) → Nears old.number (course_left old later) events (course_left new later)
  pub ahead : new.ahead.items ≡ old.ahead.items
  pub number : new.number ≡ old.number
  pub fit : IsFit new end
  pub left : lines_left new ≡ lines_left old

-- the player passes a statement in writing, with this line
pub record Passes (line : Line) (old : Player) (start : State) (new : Player) (end : State) : Type 0 where
  pub events : List Event
  pub leads : Leads start events end
  pub had_memory : HadMemory events
  pub by_it : AreBy old.number events
  pub ends : (later : Kept → Course) → ToItsEnd line (performer old.number (course_left old later) old.ahead.items) events (performer new.number (course_left new later) new.ahead.items)
  pub number : new.number ≡ old.number
  pub fit : IsFit new end
  pub left : lines_left old ≡ lines_left new + 1
