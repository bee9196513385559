use Rattle.std.proofs.Common.{◌≡◌}
use Rattle.gather_flow.specs.Workers.{all_of}
use Rattle.share_workers.proofs.JoinedOutcome.{behind}
use Rattle.share_workers.proofs.outcome.outcome_of.Given as goal

abbrev pub invariant-loop-result : goal.invariant-loop-result
invariant-loop-result g l = all_of l.fn.results.items ≡ behind l.shares (all_of l.result-iterator.rest.items)
