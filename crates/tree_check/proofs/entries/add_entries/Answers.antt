use Rattle.std.proofs.Common.{rules, ◌≡◌, ◌++◌, drop}
use Rattle.tree_laws.specs.Checked.{whole_entries}
use Rattle.tree_check.proofs.EntryLemmas.{so_far_all, so_far_next}
use Rattle.tree_check.proofs.entries.add_entries.Goals as goal

pub loop-rest-preserved : goal.loop-rest-preserved
loop-rest-preserved c =
    let back : c.split_at.result.1.now ≡ drop 40 c.loop-rest.rest.now = search rules in
    so_far_next (c.args.entries.now ++ whole_entries c.args.bytes.now) c.loop-rest.rest.now c.split_at.result.1.now c.loop-rest.entries c.push.new.self c.loop-rest-test.true back (search rules) c.loop-rest.invariant

pub returns-clause-value : goal.returns-clause-value
returns-clause-value c = so_far_all (c.args.entries.now ++ whole_entries c.args.bytes.now) c.loop-rest.rest.now c.loop-rest.entries (search rules) c.loop-rest.invariant
