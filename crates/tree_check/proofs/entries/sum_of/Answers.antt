use Rattle.std.proofs.Common.{rules, ◌≡◌, ◌+◌, arith, max, subst, sym, ℕ}
use Rattle.tree_check.proofs.EntryLemmas.{AreSummed, at_hand, entry_at, follows_at, sum_fits, summed_more, summed_all}
use Rattle.tree_check.proofs.entries.sum_of.Goals as goal

pub loop-entry-preserved : goal.loop-entry-preserved
loop-entry-preserved c =
    let i = c.loop-entry.entry-index in
    let greatest : c.max-end.result ≡ max c.loop-entry.end ((entry_at c.args.entries.now i).at + (entry_at c.args.entries.now i).len) = search rules in
    subst (λ (n : ℕ). AreSummed c.args.entries.now (i + 1) n (c.loop-entry.bytes + (entry_at c.args.entries.now i).len) (entry_at c.args.entries.now i).stamp) (sym greatest)
    (summed_more c.args.entries.now i c.loop-entry.end c.loop-entry.bytes c.loop-entry.stamp (entry_at c.args.entries.now i) (at_hand c.args.entries.now i c.loop-entry-test.true) c.loop-entry.invariant)

pub overflow_add-entry : goal.overflow_add-entry
overflow_add-entry c =
    let i = c.loop-entry.entry-index in
    let follows = follows_at c.requires.writer c.args.entries.now i (entry_at c.args.entries.now i) (at_hand c.args.entries.now i c.loop-entry-test.true) c.requires.are in
    omega (arith, follows.within)

pub overflow_add-bytes : goal.overflow_add-bytes
overflow_add-bytes c =
    let i = c.loop-entry.entry-index in
    let fits = sum_fits c.requires.writer c.args.entries.now i (entry_at c.args.entries.now i) (at_hand c.args.entries.now i c.loop-entry-test.true) c.requires.are in
    omega (arith, fits, c.loop-entry.invariant.summed)

pub returns-clause-end : goal.returns-clause-end
returns-clause-end c = (summed_all c.args.entries.now c.loop-entry.entry-index c.loop-entry.end c.loop-entry.bytes c.loop-entry.stamp (search rules) c.loop-entry.invariant).0

pub returns-clause-bytes : goal.returns-clause-bytes
returns-clause-bytes c = (summed_all c.args.entries.now c.loop-entry.entry-index c.loop-entry.end c.loop-entry.bytes c.loop-entry.stamp (search rules) c.loop-entry.invariant).1

pub returns-clause-stamp : goal.returns-clause-stamp
returns-clause-stamp c = (summed_all c.args.entries.now c.loop-entry.entry-index c.loop-entry.end c.loop-entry.bytes c.loop-entry.stamp (search rules) c.loop-entry.invariant).2
