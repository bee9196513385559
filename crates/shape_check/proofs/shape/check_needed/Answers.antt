use Rattle.shape_check.proofs.Seen.{looked_on}
use Rattle.shape_check.proofs.ShapeLemmas.{has_needed}
use Rattle.shape_check.proofs.shape.check_needed.Goals as goal

pub returns-clause-ok : goal.returns-clause-ok
returns-clause-ok g c =
    let old = g.S.Store.stored c.args.store.now in
    let a = g.S.Store.stored c.check_has.new.store in
    let b = g.S.Store.stored c.check_has-2.new.store in
    let d = g.S.Store.stored c.check_has-3.new.store in
    let to_b = looked_on old a b c.check_has.ensures.looked c.check_has-2.ensures.looked in
    has_needed c.args.place.now old a b d c.metadata.result c.truncs.result c.flats.result c.check_access.result c.metadata.ensures c.truncs.ensures c.flats.ensures c.check_has.ensures.looked to_b (looked_on old b d to_b c.check_has-3.ensures.looked)
    c.in_ok-check_has.ensures.ok c.in_ok-check_has-2.ensures.ok c.in_ok-check_has-3.ensures.ok c.check_access.ensures.ok
