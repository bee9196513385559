use Rattle.std.proofs.Common.{rules, arith}
use Rattle.mount_model.specs.Paths.{index_path}
use Rattle.shape_check.specs.Files.{IsPlaced}
use Rattle.shape_check.proofs.Facts.{looked_on}
use Rattle.tree_check.specs.Whole.{HasLength}
use Rattle.tree_check.proofs.DroppingLemmas.{its_length, reading_fails, reading_is, reading_orderly, shows_entries}
use Rattle.tree_check.proofs.Failing.{all_fail_for}
use Rattle.tree_check.proofs.OfItem.{misfit_named}
use Rattle.tree_check.proofs.droppings.read_dropping.Goals as goal

pub returns-in_err-entries-clause-err : goal.returns-in_err-entries-clause-err
returns-in_err-entries-clause-err g c =
    let old = g.S.Store.stored c.args.store.now in
    all_fail_for (IsPlaced c.args.place.now) (HasLength c.args.place.now c.index_of-path.result c.in_ok-size.size) old (g.S.Store.stored c.length_or_none.new.store) (g.S.Store.stored c.entries_at.new.store) c.from_residual-in_err-entries.result
    (its_length c.args.place.now c.index_of-path.result c.in_ok-size.size old c.in_ok-size.ensures.ok) c.length_or_none.ensures.looked (search rules)

pub returns-in_err-log-clause-err : goal.returns-in_err-log-clause-err
returns-in_err-log-clause-err g c =
    let old = g.S.Store.stored c.args.store.now in
    let a = g.S.Store.stored c.length_or_none.new.store in
    let b = g.S.Store.stored c.entries_at.new.store in
    all_fail_for (IsPlaced c.args.place.now) (IsPlaced c.args.place.now) old b (g.S.Store.stored c.length_or_none-2.new.store) c.from_residual-in_err-log.result (λ tree seen at. at) (looked_on old a b c.length_or_none.ensures.looked c.entries_at.ensures.looked) (search rules)

pub returns-clause-ok : goal.returns-clause-ok
returns-clause-ok g c =
    let old = g.S.Store.stored c.args.store.now in
    let a = g.S.Store.stored c.length_or_none.new.store in
    let b = g.S.Store.stored c.entries_at.new.store in
    let shows = shows_entries c.args.place.now c.index_of-path.result c.in_ok-size.size c.in_ok-entries.entries old a c.length_or_none.ensures.looked c.in_ok-size.ensures.ok c.in_ok-entries.ensures.ok in
    reading_is c.args.place.now c.args.host c.args.writer old b c.in_ok-size.size c.in_ok-entries.entries c.in_ok-log.log c.dropping_of.result (looked_on old a b c.length_or_none.ensures.looked c.entries_at.ensures.looked)
    (rw c.index_of-path.ensures at shows) (rw c.log_of.ensures at c.in_ok-log.ensures.ok) c.dropping_of.ensures.ok

pub returns-clause-err : goal.returns-clause-err
returns-clause-err g c =
    let old = g.S.Store.stored c.args.store.now in
    let a = g.S.Store.stored c.length_or_none.new.store in
    let shows = shows_entries c.args.place.now c.index_of-path.result c.in_ok-size.size c.in_ok-entries.entries old a c.length_or_none.ensures.looked c.in_ok-size.ensures.ok c.in_ok-entries.ensures.ok in
    reading_fails c.args.place.now c.args.host c.args.writer old (g.S.Store.stored c.length_or_none-2.new.store) c.in_ok-size.size c.in_ok-entries.entries c.dropping_of.result (omega (arith, c.ranges.host)) (omega (arith, c.ranges.writer))
    (rw c.index_of-path.ensures at shows) (rw c.index_of-path.ensures at c.dropping_of.ensures.err)

pub returns-clause-orderly : goal.returns-clause-orderly
returns-clause-orderly g c = reading_orderly c.args.writer c.in_ok-size.size c.in_ok-entries.entries c.in_ok-log.log c.dropping_of.result c.dropping_of.ensures.ok

pub returns-clause-named : goal.returns-clause-named
returns-clause-named g c =
    misfit_named c.args.place.now.name (index_path c.args.host c.args.writer) c.args.writer c.in_ok-entries.entries c.dropping_of.result (rw c.index_of-path.ensures at c.dropping_of.ensures.err)
