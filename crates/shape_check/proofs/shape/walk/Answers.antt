use Rattle.std.proofs.Common.{rules}
use Rattle.shape_check.specs.Files.{IsPlaced}
use Rattle.shape_check.proofs.LoopLemmas.{at_hand, looked_same}
use Rattle.shape_check.proofs.Seen.{looked_on}
use Rattle.shape_check.proofs.ShapeLemmas.{fails_later, walked_all, walked_more, walked_none}
use Rattle.shape_check.proofs.shape.walk.Goals as goal

pub loop-top-init : goal.loop-top-init
loop-top-init g c = record {
  looked = looked_same (g.S.Store.stored c.args.store.now);
  walked = rw c.new-paths.ensures (walked_none c.args.place.now (g.S.Store.stored c.args.store.now) c.args.tops.now);
}

pub loop-top-preserved : goal.loop-top-preserved
loop-top-preserved g c =
    let old = g.S.Store.stored c.args.store.now in
    let mid = g.S.Store.stored c.loop-top.store in
    let new = g.S.Store.stored c.add_top.new.store in
    record {
      looked = looked_on old mid new c.loop-top.invariant.looked c.add_top.ensures.looked;
      walked = walked_more c.args.place.now old mid c.args.tops.now c.loop-top.top-index c.top-item.result c.loop-top.paths c.add_top.new.paths
          (at_hand c.args.tops.now c.loop-top.top-index c.top-item.result c.loop-top-test.true c.top-item.is) c.loop-top.invariant.looked c.loop-top.invariant.walked (search rules);
    }

pub returns-clause-ok : goal.returns-clause-ok
returns-clause-ok g c = walked_all c.args.place.now (g.S.Store.stored c.args.store.now) c.args.tops.now c.loop-top.top-index c.loop-top.paths (search rules) c.loop-top.invariant.walked

pub returns-in_err-add_top-clause-err : goal.returns-in_err-add_top-clause-err
returns-in_err-add_top-clause-err g c =
    fails_later (IsPlaced c.args.place.now) (g.S.Store.stored c.args.store.now) (g.S.Store.stored c.loop-top.store) (g.S.Store.stored c.add_top.new.store) c.from_residual.result c.loop-top.invariant.looked (search rules)
