use Rattle.std.proofs.Common.{rules, ◌≡◌, true, length, arith}
use Rattle.tree_check.proofs.EntryLemmas.{at_hand, entry_at, passed_here, passed_all}
use Rattle.tree_check.proofs.entries.landed_of.Goals as goal

pub returns-then-not-is_within-clause-value : goal.returns-then-not-is_within-clause-value
returns-then-not-is_within-clause-value c =
    passed_here c.args.log c.args.entries.now c.loop-count.count (entry_at c.args.entries.now c.loop-count.count) (at_hand c.args.entries.now c.loop-count.count (search rules))
    (λ ends. let within : c.is_within.result ≡ true = c.is_within.ensures.1 ends in absurd (cc)) c.loop-count.invariant

pub returns-clause-value : goal.returns-clause-value
returns-clause-value c = passed_all c.args.log c.args.entries.now (length c.args.entries.now) (omega arith) (search rules)
