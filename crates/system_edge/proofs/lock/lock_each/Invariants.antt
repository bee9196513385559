use Rattle.std.proofs.Common.{◌≡◌}
use Rattle.std.specs.Prelude.{vec_len}
use Rattle.system_edge.proofs.lock.lock_each.Given as goal

-- a lock for each folder so far
abbrev pub invariant-loop-place : goal.invariant-loop-place
invariant-loop-place l = vec_len l.held ≡ l.place
