use Rattle.std.proofs.Common.{rules}
use Rattle.tree_check.specs.Indices.{IsOwned}
use Rattle.tree_check.proofs.DroppingLemmas.{orderly_landed}
use Rattle.tree_check.proofs.Failing.{none_left}
use Rattle.tree_check.proofs.IndexLemmas.{cover_tells, none_was_read, read_orderly}
use Rattle.tree_check.proofs.indices.covered.Goals as goal

pub returns-in_default-clause-ok : goal.returns-in_default-clause-ok
returns-in_default-clause-ok g c = none_was_read c.args.place.now c.args.owners.now c.args.cover.now c.in_ok-found.found (g.S.Store.stored c.args.store.now) (search rules) c.in_ok-found.ensures.ok

pub landed-requires : goal.landed-requires
landed-requires g c = (read_orderly c.args.place.now c.args.cover.now.writer c.in-Some.read (g.S.Store.stored c.read_covered.new.store) (rw c.in-Some.is at c.in_ok-found.ensures.read)).within

pub first_pieces-requires : goal.first_pieces-requires
first_pieces-requires g c =
    rw c.landed.ensures (orderly_landed c.args.cover.now.writer c.in-Some.read.dropping (read_orderly c.args.place.now c.args.cover.now.writer c.in-Some.read (g.S.Store.stored c.read_covered.new.store) (rw c.in-Some.is at c.in_ok-found.ensures.read)))

pub returns-in_err-pieces-clause-err : goal.returns-in_err-pieces-clause-err
returns-in_err-pieces-clause-err g c =
    none_left (IsOwned c.args.place.now c.args.owners.now) (g.S.Store.stored c.args.store.now) (g.S.Store.stored c.read_covered.new.store) c.from_residual-in_err-pieces.result (search rules)

pub returns-clause-ok : goal.returns-clause-ok
returns-clause-ok g c =
    cover_tells c.args.place.now c.args.owners.now c.args.cover.now c.in-Some.read (g.S.Store.stored c.args.store.now) (g.S.Store.stored c.read_covered.new.store) c.in_ok-pieces.pieces c.read_covered.ensures.looked
    (rw c.in-Some.is at c.in_ok-found.ensures.ok) (rw c.in-Some.is at c.in_ok-found.ensures.read) (rw c.landed.ensures at c.in_ok-pieces.ensures)

pub returns-clause-kept : goal.returns-clause-kept
returns-clause-kept g c = (rw c.in-Some.is at c.in_ok-found.ensures.read).1
