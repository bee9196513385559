use Rattle.std.proofs.Common.{rules, false, Ok}
use Rattle.std.specs.Prelude.{IfErr}
use Rattle.shape_check.specs.Rightness.{IsFoundIn}
use Rattle.tree_check.specs.Concerning.{IsOfCover}
use Rattle.tree_check.specs.Indices.{IsOwned}
use Rattle.tree_check.proofs.AloneLemmas.{alone_tells, theirs_before}
use Rattle.tree_check.proofs.Failing.{all_fail_for, none_left}
use Rattle.tree_check.proofs.IndexLemmas.{all_theirs_tell, none_theirs}
use Rattle.tree_check.proofs.indices.are_covered.Goals as goal

pub is_of_one-requires-clause-runs : goal.is_of_one-requires-clause-runs
is_of_one-requires-clause-runs g c = rw c.as_slice-pieces.ensures.value c.requires.valid.pieces.runs

pub returns-then-alone-clause-ok : goal.returns-then-alone-clause-ok
returns-then-alone-clause-ok g c =
    alone_tells c.args.place.now c.args.owners.now c.args.flat.now.covers c.args.flat.now.pieces (g.S.Store.stored c.args.store.now) c.in_ok-alone.alone c.if-alone.true
    (rw c.as_slice-pieces.ensures.value at (rw c.as_slice-covers.ensures at c.in_ok-alone.ensures.ok))

pub are_merged-requires : goal.are_merged-requires
are_merged-requires g c = rw c.as_slice-pieces.ensures.value c.requires.valid.pieces.runs

pub returns-in-Some-clause-ok : goal.returns-in-Some-clause-ok
returns-in-Some-clause-ok g c =
    theirs_before c.args.place.now c.args.owners.now c.args.flat.now.covers c.args.flat.now.pieces (g.S.Store.stored c.args.store.now) (g.S.Store.stored c.is_of_one.new.store) c.are_merged.result c.is_of_one.ensures.looked
    (all_theirs_tell (g.S.Store.stored c.is_of_one.new.store) c.args.place.now c.args.owners.now c.args.flat.now.covers c.in-Some.lists c.args.flat.now.pieces c.are_merged.result
    (rw c.in-Some.is at (rw c.as_slice-covers.ensures at c.in_ok-found.ensures.ok)) (rw c.as_slice-pieces.ensures.value at c.are_merged.ensures.ok))

pub returns-in-Some-clause-err : goal.returns-in-Some-clause-err
returns-in-Some-clause-err g c =
    none_left (IsOwned c.args.place.now c.args.owners.now) (g.S.Store.stored c.args.store.now) (g.S.Store.stored c.pieces_of.new.store) c.are_merged.result c.are_merged.ensures.err

pub returns-in-None-clause-ok : goal.returns-in-None-clause-ok
returns-in-None-clause-ok g c =
    theirs_before c.args.place.now c.args.owners.now c.args.flat.now.covers c.args.flat.now.pieces (g.S.Store.stored c.args.store.now) (g.S.Store.stored c.is_of_one.new.store) (Ok false) c.is_of_one.ensures.looked
    (none_theirs (g.S.Store.stored c.is_of_one.new.store) c.args.place.now c.args.owners.now c.args.flat.now.covers c.args.flat.now.pieces (rw c.in-None.is at (rw c.as_slice-covers.ensures at c.in_ok-found.ensures.ok)))

pub returns-in_err-found-clause-err : goal.returns-in_err-found-clause-err
returns-in_err-found-clause-err g c =
    all_fail_for (IsOwned c.args.place.now c.args.owners.now) (IsOwned c.args.place.now c.args.owners.now) (g.S.Store.stored c.args.store.now) (g.S.Store.stored c.is_of_one.new.store) (g.S.Store.stored c.pieces_of.new.store) c.from_residual-in_err-found.result
    (λ tree seen at. at) c.is_of_one.ensures.looked (search rules)

pub returns-in_err-alone-clause-named : goal.returns-in_err-alone-clause-named
returns-in_err-alone-clause-named g c =
    let found : IfErr c.from_residual.result (IsFoundIn c.args.place.now.name (IsOfCover c.as_slice-covers.result.now)) = search rules in
    rw c.as_slice-covers.ensures at found

pub returns-in_err-found-clause-named : goal.returns-in_err-found-clause-named
returns-in_err-found-clause-named g c =
    let found : IfErr c.from_residual-in_err-found.result (IsFoundIn c.args.place.now.name (IsOfCover c.as_slice-covers.result.now)) = search rules in
    rw c.as_slice-covers.ensures at found
