use Rattle.std.proofs.Common.{◌≡◌, true, arith}
use Rattle.tree_check.proofs.EntryLemmas.{at_hand, entry_at, fine_more, long_at, misplaced_at}
use Rattle.tree_check.proofs.entries.judge.Goals as goal

pub returns-then-not-may_follow-clause-err : goal.returns-then-not-may_follow-clause-err
returns-then-not-may_follow-clause-err c =
    let i = c.loop-entry.entry-index in
    misplaced_at c.args.room c.args.path.now c.args.writer c.args.entries.now i c.loop-entry.last c.loop-entry.logged (entry_at c.args.entries.now i) (at_hand c.args.entries.now i c.loop-entry-test.true) c.loop-entry.invariant.fine
    (λ may. let follows : c.may_follow.result ≡ true = c.may_follow.ensures.1 may in absurd (cc)) c.loop-entry.place c.loop-entry.invariant.placed

pub returns-then-entry-logged-clause-err : goal.returns-then-entry-logged-clause-err
returns-then-entry-logged-clause-err c =
    let i = c.loop-entry.entry-index in
    long_at c.args.room c.args.path.now c.args.writer c.args.entries.now i c.loop-entry.last c.loop-entry.logged (entry_at c.args.entries.now i) (at_hand c.args.entries.now i c.loop-entry-test.true) c.loop-entry.invariant.fine c.if-entry-logged.true

pub loop-entry-preserved : goal.loop-entry-preserved
loop-entry-preserved c =
    let i = c.loop-entry.entry-index in
    record {
      fine = fine_more c.args.writer c.args.entries.now i c.loop-entry.last c.loop-entry.logged (entry_at c.args.entries.now i) (at_hand c.args.entries.now i c.loop-entry-test.true) c.loop-entry.invariant.fine
          (c.may_follow.ensures.0 c.if-not-may_follow.false) c.if-entry-logged.false;
      placed = omega (arith, c.loop-entry.invariant.placed);
    }
