use Rattle.std.proofs.Common.{false, refl, Some}
use Rattle.tree_check.proofs.AloneLemmas.{no_claim}
use Rattle.tree_check.proofs.DroppingLemmas.{orderly_landed}
use Rattle.tree_check.proofs.IndexLemmas.{TellsOne, cover_tells, read_orderly}
use Rattle.tree_check.proofs.alone.is_alone.Goals as goal

pub returns-in_default-clause-ok : goal.returns-in_default-clause-ok
returns-in_default-clause-ok g c = no_claim (TellsOne c.args.place.now c.args.owners.now c.args.cover.now (Some c.args.pieces.now) (g.S.Store.stored c.args.store.now)) false refl

pub landed-requires : goal.landed-requires
landed-requires g c = (read_orderly c.args.place.now c.args.cover.now.writer c.in-Some.read (g.S.Store.stored c.read_covered.new.store) (rw c.in-Some.is at c.in_ok-found.ensures.read)).within

pub are_first-is-requires-clause-ordered : goal.are_first-is-requires-clause-ordered
are_first-is-requires-clause-ordered g c =
    rw c.landed.ensures (orderly_landed c.args.cover.now.writer c.in-Some.read.dropping (read_orderly c.args.place.now c.args.cover.now.writer c.in-Some.read (g.S.Store.stored c.read_covered.new.store) (rw c.in-Some.is at c.in_ok-found.ensures.read)))

pub returns-clause-ok : goal.returns-clause-ok
returns-clause-ok g c = λ yes.
    cover_tells c.args.place.now c.args.owners.now c.args.cover.now c.in-Some.read (g.S.Store.stored c.args.store.now) (g.S.Store.stored c.read_covered.new.store) (Some c.args.pieces.now) c.read_covered.ensures.looked
    (rw c.in-Some.is at c.in_ok-found.ensures.ok) (rw c.in-Some.is at c.in_ok-found.ensures.read) (rw c.landed.ensures at c.are_first-is.ensures yes)

pub returns-clause-kept : goal.returns-clause-kept
returns-clause-kept g c = (rw c.in-Some.is at c.in_ok-found.ensures.read).1
