-- What the actors of the code have still to do.
use Rattle.std.specs.Prelude.{◌≡◌, ℕ, ◌+◌, ⊤, All, List, length, map, Result}
use Rattle.mount_model.specs.declared.call.Ask.{Ask}
use Rattle.mount_model.specs.declared.reply.Reply.{Reply}
use Rattle.mount_model.specs.declared.stuck.Stuck.{Stuck}
use Rattle.index_reader.specs.declared.sharing.Share.{Share}
use Rattle.mount_model.specs.State.{State}
use Rattle.mount_model.specs.Step.{IsStep}
use Rattle.mount_sound.specs.Owed.{Permits}
use Rattle.mount_sound.specs.Sound.{IsFine}
use Rattle.mount_model.specs.Process.{ends, pauses, tells}
use Rattle.mount_model.specs.Safe.{IsSafeProcess}
use Rattle.mount_model.specs.Performers.{Performer, performer}
use Rattle.script_lang.specs.declared.line.Line.{Line}
use Rattle.script_lang.specs.declared.script.Numbered.{Numbered}
use Rattle.script_lang.specs.declared.script.Phase.{Phase}
use Rattle.script_lang.specs.Ranges.{FitsStatement}
use Rattle.actor_core.specs.declared.kept.Kept.{Kept}
use Rattle.actor_core.specs.Progress.{Progress, idle, going, asked, handed, told}
use Rattle.actor_core.specs.Standings.{progress_of}
pub use Rattle.run_core.specs.Coming.{ComesToLine}
use Rattle.run_core.specs.declared.player.Player.{Player}
use Rattle.run_core.specs.Course.{Course, then_line, one_by_one, own, through}

-- its statements of the phase that are not begun
abbrev pub waiting_in : Player → List Numbered
waiting_in player = map (λ s. s.now) player.queue.items

-- the rest of the statement in progress, and then these statements
abbrev pub course_at : Progress → List Numbered → (Kept → Course) → Course
course_at (idle kept) statements next = one_by_one statements next kept
course_at (going number work) statements next = then_line number (λ kept. one_by_one statements next kept) work
course_at (asked number k) statements next = ends
course_at (handed number k) statements next = ends
course_at (told line kept) statements next = tells line (one_by_one statements next kept)

-- what the player has still to do in this phase, and this after the pause
abbrev pub course_left : Player → (Kept → Course) → Course
course_left player later = course_at (progress_of player.actor) (waiting_in player) (λ kept. pauses (later kept))

-- a player in a phase, with these phases to come; and one between phases
abbrev pub playing : List Phase → Player → Performer Ask Reply (Result Share Stuck) Line
playing later player = performer player.number (course_left player (through player.number later)) player.ahead.items

abbrev pub resting : List Phase → Player → Performer Ask Reply (Result Share Stuck) Line
resting later player = performer player.number (course_at (progress_of player.actor) (waiting_in player) (through player.number later)) player.ahead.items

-- Between two calls: the rest of the statement in progress comes to its line, and the caller of this number may make each of its calls, whatever allowed calls
-- others make before it.
abbrev pub IsSafeProgress : ℕ → Progress → State → Type 0
IsSafeProgress number (idle kept) state = ⊤
IsSafeProgress number (going line work) state = ComesToLine work × IsSafeProcess IsStep Permits number work state
IsSafeProgress number (asked line k) state = ⊥
IsSafeProgress number (handed line k) state = ⊥
IsSafeProgress number (told line kept) state = ⊤

-- a statement whose numbers and data are in their ranges
abbrev pub IsMade : Numbered → Type 0
IsMade s = FitsStatement s.statement

-- the player may go on from this state of the mount
pub record IsFit (player : Player) (state : State) : Type 0 where
  pub fine : IsFine state
  pub safe : IsSafeProgress player.number (progress_of player.actor) state
  pub made : All IsMade (waiting_in player)

-- one where a statement is in progress, or its line waits
abbrev pub in_progress : Progress → ℕ
in_progress (idle kept) = 0
in_progress _ = 1

-- how many of its lines in this phase are not passed in writing
abbrev pub lines_left : Player → ℕ
lines_left player = length player.ahead.items + in_progress (progress_of player.actor) + length (waiting_in player)

-- the player of this place may go on from this state, and in this phase these statements are not passed in writing
pub record Stands (statements : List Numbered) (place : ℕ) (player : Player) (state : State) : Type 0 where
  pub number : player.number ≡ place
  pub fit : IsFit player state
  pub left : lines_left player ≡ length (own place statements)
