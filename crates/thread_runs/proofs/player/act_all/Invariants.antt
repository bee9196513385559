use Rattle.std.proofs.Common.{drop, map}
use Rattle.share_workers.specs.Passes.{IsAfter}
use Rattle.thread_runs.specs.Runners.{ActedSoFar}
use Rattle.thread_runs.proofs.player.act_all.Given as goal

abbrev pub invariant-loop-statement : goal.invariant-loop-statement
invariant-loop-statement g l =
    IsAfter l.turn l.fn.player.pass l.player.pass
    × ActedSoFar (map (λ s. s.now) l.statements) (map (λ s. s.now) (drop l.statement-index l.statements)) l.fn.player l.player
