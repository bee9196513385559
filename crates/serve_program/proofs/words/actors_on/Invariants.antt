use Rattle.std.proofs.Common.{◌≡◌, replicate}
use Rattle.serve_program.specs.Words.{actor_on}
use Rattle.serve_program.proofs.words.actors_on.Given as goal

abbrev pub invariant-loop-i : goal.invariant-loop-i
invariant-loop-i l = l.actors ≡ replicate l._i (actor_on l.host)
