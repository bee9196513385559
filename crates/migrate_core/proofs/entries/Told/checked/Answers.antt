use Rattle.std.proofs.Common.{rules}
use Rattle.migrate_core.proofs.EntryLemmas.{checking_breaks, checking_ends, checking_goes}
use Rattle.migrate_core.proofs.entries.Told.checked.Goals as goal

pub returns-then-rest-lt40-clause-checked : goal.returns-then-rest-lt40-clause-checked
returns-then-rest-lt40-clause-checked c =
    checking_ends c.args.count c.args.bytes.now c.args.self c.loop-left.left c.loop-left.rest.now c.loop-left.tail c.loop-left.invariant (search rules) (search rules)

pub returns-then-not-is_next-clause-checked : goal.returns-then-not-is_next-clause-checked
returns-then-not-is_next-clause-checked c =
    checking_breaks c.args.count c.args.bytes.now c.args.self c.loop-left.left c.loop-left.rest.now c.loop-left.tail c.first_entry-entry.result c.loop-left.invariant (search rules) (search rules) (search rules) (search rules)

pub loop-left-preserved : goal.loop-left-preserved
loop-left-preserved c =
    checking_goes c.args.count c.args.bytes.now c.args.self c.loop-left.left c.loop-left.rest.now c.loop-left.tail c.first_entry-entry.result c.past_first-rest.result.now c.push.new.self c.loop-left.invariant
    (search rules) (search rules) (search rules) (search rules) (search rules) (search rules)
