use Rattle.std.proofs.Common.{rules}
use Rattle.shape_check.proofs.Facts.{looked_on, path_at_hand}
use Rattle.tree_check.proofs.KnownLemmas.{item_fails_all, items_all, items_more, noted_fails}
use Rattle.tree_check.proofs.writers.check_items.Goals as goal

pub loop-path-preserved : goal.loop-path-preserved
loop-path-preserved g c =
    let old = g.S.Store.stored c.args.store.now in
    let mid = g.S.Store.stored c.loop-path.store in
    let new = g.S.Store.stored c.check_item-told.new.store in
    record {
      kept = c.check_item-told.ensures.kept;
      looked = looked_on old mid new c.loop-path.invariant.looked c.check_item-told.ensures.looked;
      told = items_more c.args.place.now c.args.owners.now c.args.truncs.now c.args.paths.now c.loop-path.path-index c.path-item.result old mid new c.check_item-told.result c.loop-path.found c.note.new.found
          (path_at_hand c.args.paths.now c.loop-path.path-index c.path-item.result c.loop-path-test.true c.path-item.is) c.loop-path.invariant.looked c.loop-path.invariant.told c.check_item-told.ensures.ok c.check_item-told.ensures.err c.check_item-told.ensures.named (search rules);
    }

pub returns-in_err-note-clause-err : goal.returns-in_err-note-clause-err
returns-in_err-note-clause-err g c =
    let mid = g.S.Store.stored c.loop-path.store in
    let new = g.S.Store.stored c.check_item-told.new.store in
    let wrong = noted_fails c.args.place.now c.args.owners.now c.args.truncs.now c.args.paths.now c.path-item.result mid new c.check_item-told.result c.note.result c.check_item-told.ensures.err c.note.ensures.err in
    item_fails_all c.args.place.now c.args.owners.now c.args.truncs.now c.args.paths.now c.loop-path.path-index c.path-item.result (g.S.Store.stored c.args.store.now) mid new c.from_residual.result
    (path_at_hand c.args.paths.now c.loop-path.path-index c.path-item.result c.loop-path-test.true c.path-item.is) c.loop-path.invariant.looked (search (rules, wrong))

pub returns-clause-ok : goal.returns-clause-ok
returns-clause-ok g c = items_all c.args.place.now c.args.owners.now c.args.truncs.now c.args.paths.now c.loop-path.path-index c.loop-path.found (g.S.Store.stored c.args.store.now) (search rules) c.loop-path.invariant.told
