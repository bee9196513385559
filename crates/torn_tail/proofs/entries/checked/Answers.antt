use Rattle.std.proofs.Common.{rules}
use Rattle.torn_tail.proofs.CheckLemmas.{checking_breaks, checking_ends, checking_goes}
use Rattle.torn_tail.proofs.entries.checked.Goals as goal

pub returns-then-not-is_next : goal.returns-then-not-is_next
returns-then-not-is_next c = search (rules, checking_breaks)

pub returns-then-entry-log : goal.returns-then-entry-log
returns-then-entry-log c = search (rules, checking_ends)

pub loop-left-preserved : goal.loop-left-preserved
loop-left-preserved c =
    checking_goes _ _ _ _ _ _ _ c.first_entry-entry.result _ _ c.loop-left.invariant (search rules) (search rules) (search rules) (search rules) (search rules) (search rules)
