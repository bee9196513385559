use Rattle.std.proofs.Common.{rules}
use Rattle.shape_check.specs.Files.{IsFineItem}
use Rattle.shape_check.proofs.LoopLemmas.{place_on, path_at_hand}
use Rattle.shape_check.proofs.ListLemmas.{each_more, each_all}
use Rattle.shape_check.proofs.Seen.{looked_on}
use Rattle.shape_check.proofs.shape.check_paths.Goals as goal

pub loop-path-preserved : goal.loop-path-preserved
loop-path-preserved g c =
    let old = g.S.Store.stored c.args.store.now in
    let mid = g.S.Store.stored c.loop-path.store in
    let new = g.S.Store.stored c.check_file.new.store in
    record {
      looked = looked_on old mid new c.loop-path.invariant.looked c.check_file.ensures.looked;
      fine = each_more IsFineItem c.args.place.now old c.args.paths.now c.loop-path.path-index c.path-item.result
          (path_at_hand c.args.paths.now c.loop-path.path-index c.path-item.result c.loop-path-test.true c.path-item.is) c.loop-path.invariant.fine
          (place_on (IsFineItem c.path-item.result) c.args.place.now old mid c.loop-path.invariant.looked (search rules));
    }

pub returns-clause-ok : goal.returns-clause-ok
returns-clause-ok g c = each_all IsFineItem c.args.place.now (g.S.Store.stored c.args.store.now) c.args.paths.now c.loop-path.path-index (search rules) c.loop-path.invariant.fine
