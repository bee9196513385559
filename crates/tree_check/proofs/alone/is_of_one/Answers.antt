use Rattle.std.proofs.Common.{get_or, arith}
use Rattle.tree_check.proofs.AloneLemmas.{lone_cover, no_cover, one_named, one_tells}
use Rattle.tree_check.proofs.alone.is_of_one.Goals as goal

pub returns-in-len1-clause-ok : goal.returns-in-len1-clause-ok
returns-in-len1-clause-ok g c =
    one_tells c.args.place.now c.args.owners.now c.args.covers.now (get_or c.args.covers.now 0 no_cover) c.args.pieces.now (g.S.Store.stored c.args.store.now) c.is_alone.result
    (lone_cover c.args.covers.now (omega (arith, c.in-len1.len_at_least)) (omega (arith, c.in-len1.len_below))) c.is_alone.ensures.ok

pub returns-in-len1-clause-named : goal.returns-in-len1-clause-named
returns-in-len1-clause-named g c =
    one_named c.args.place.now.name c.args.covers.now (get_or c.args.covers.now 0 no_cover) c.is_alone.result
    (lone_cover c.args.covers.now (omega (arith, c.in-len1.len_at_least)) (omega (arith, c.in-len1.len_below))) c.is_alone.ensures.named
