use Rattle.std.proofs.Common.{◌≡◌, ◌≤◌, length, take}
use Rattle.std.specs.Prelude.{vec_len, vec_capacity}
use Rattle.thread_runs.specs.Running.{Enters}
use Rattle.thread_runs.proofs.entering.enter_all.Given as goal

abbrev pub invariant-loop-declared : goal.invariant-loop-declared
invariant-loop-declared g l = Enters l.turn (take l.declared-index l.actors) l.main l.players.items × (vec_len l.players ≡ l.declared-index) × (length l.actors ≤ vec_capacity l.players)
