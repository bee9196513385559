use Rattle.shape_check.proofs.Seen.{looked_on}
use Rattle.shape_check.proofs.ShapeLemmas.{has_shape}
use Rattle.shape_check.proofs.shape.check_shape.Goals as goal

pub returns-clause-ok : goal.returns-clause-ok
returns-clause-ok g c =
    let old = g.S.Store.stored c.args.store.now in
    let a = g.S.Store.stored c.paths_of.new.store in
    let b = g.S.Store.stored c.check_paths.new.store in
    has_shape c.args.place.now old a b c.in_ok-paths.paths c.in_ok-check_name.ensures.ok c.paths_of.ensures.looked (looked_on old a b c.paths_of.ensures.looked c.check_paths.ensures.looked)
    c.in_ok-paths.ensures.ok (rw c.as_slice.ensures at c.in_ok-check_paths.ensures.ok) c.in_ok-check_needed.ensures.ok
