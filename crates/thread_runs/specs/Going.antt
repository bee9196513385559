-- How a pass goes on in its actor's course.
use Rattle.std.specs.Prelude.{◌≡◌, List, ◌++◌}
use Rattle.std.specs.List.{All}
use Rattle.turn_object.specs.declared.history.Ended.{Ended}
use Rattle.mount_model.specs.declared.call.Ask.{Ask}
use Rattle.mount_model.specs.declared.reply.Reply.{Reply}
use Rattle.mount_model.specs.State.{State}
use Rattle.mount_model.specs.History.{Event}
use Rattle.script_lang.specs.declared.line.Line.{Line}
use Rattle.mount_model.specs.Process.{ends}
use Rattle.mount_model.specs.Going.{HasGone}
use Rattle.run_core.specs.Course.{Course}
use Rattle.mount_core.specs.Memory.{HadMemory, HadMemoryBeforeLast}
use Rattle.share_workers.specs.Passes.{View}
use Rattle.thread_runs.specs.Reaching.{Reach, up_to}

-- of the calls of one that ended none was refused memory
abbrev pub EndedWithMemory : Ended Ask Reply State → Type 0
EndedWithMemory gone = HadMemory gone.entries

-- of them none but the last one
abbrev pub EndedWithMemoryBeforeLast : Ended Ask Reply State → Type 0
EndedWithMemoryBeforeLast gone = HadMemoryBeforeLast gone.entries

-- The pass went from v to w, its actor's course from p to q, and it told these lines. No call of the actor or of its workers was refused memory. However far the
-- actor comes in q, so far it comes in p.
pub record Goes (v : View) (p : Course) (w : View) (q : Course) (lines : List Line) : Type 0 where
  pub gone : HasGone v p w q lines
  pub as_far : (reach : Reach) → (whole : Reach) × HasGone v (up_to whole p) w (up_to reach q) lines
  pub calls : List Event
  pub mine : w.mine ≡ v.mine ++ calls
  pub memory : HadMemory calls
  pub workers : List (Ended Ask Reply State)
  pub ended : w.ended ≡ v.ended ++ workers
  pub workers_memory : All EndedWithMemory workers

-- The pass went from v to w, and its actor's course p was broken off: its calls and those of its workers are those of p as far as it came. Only the last one of
-- each of them may have been refused memory.
pub record Breaks (v : View) (p : Course) (w : View) : Type 0 where
  pub reach : Reach
  pub lines : List Line
  pub gone : HasGone v (up_to reach p) w ends lines
  pub calls : List Event
  pub mine : w.mine ≡ v.mine ++ calls
  pub memory : HadMemoryBeforeLast calls
  pub workers : List (Ended Ask Reply State)
  pub ended : w.ended ≡ v.ended ++ workers
  pub workers_memory : All EndedWithMemoryBeforeLast workers
