use Rattle.std.proofs.Common.{rules}
use Rattle.shape_check.specs.Places.{IsFineTop}
use Rattle.shape_check.proofs.LoopLemmas.{marks_on, one_more, all_of_them, at_hand}
use Rattle.shape_check.proofs.Seen.{looked_on}
use Rattle.shape_check.proofs.marks.check_tops.Goals as goal

pub loop-top-preserved : goal.loop-top-preserved
loop-top-preserved g c =
    let old = g.S.Store.stored c.args.store.now in
    let mid = g.S.Store.stored c.loop-top.store in
    let new = g.S.Store.stored c.check_top.new.store in
    record {
      looked = looked_on old mid new c.loop-top.invariant.looked c.check_top.ensures.looked;
      fine = one_more IsFineTop c.args.number old c.args.tops.now c.loop-top.top-index c.top-item.result (at_hand c.args.tops.now c.loop-top.top-index c.top-item.result c.loop-top-test.true c.top-item.is) c.loop-top.invariant.fine
          (marks_on (IsFineTop c.top-item.result) c.args.number old mid c.loop-top.invariant.looked (search rules));
    }

pub returns-clause-ok : goal.returns-clause-ok
returns-clause-ok g c = all_of_them IsFineTop c.args.number (g.S.Store.stored c.args.store.now) c.args.tops.now c.loop-top.top-index (search rules) c.loop-top.invariant.fine
