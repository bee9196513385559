use Rattle.std.proofs.Common.{rules}
use Rattle.shape_check.proofs.Facts.{all_found_by, looked_on}
use Rattle.tree_check.specs.Concerning.{IsOfCover, IsOfWriter}
use Rattle.tree_check.specs.Indices.{IsOwned}
use Rattle.tree_check.proofs.Failing.{all_fail_for}
use Rattle.tree_check.proofs.IndexLemmas.{cover_at, cover_at_hand, none_covered, tells_all, tells_more}
use Rattle.tree_check.proofs.indices.pieces_of.Goals as goal

pub loop-cover-preserved : goal.loop-cover-preserved
loop-cover-preserved g c =
    let old = g.S.Store.stored c.args.store.now in
    let mid = g.S.Store.stored c.loop-cover.store in
    let i = c.loop-cover.cover-index in
    record {
      kept = c.covered.ensures.kept;
      looked = looked_on old mid (g.S.Store.stored c.covered.new.store) c.loop-cover.invariant.looked c.covered.ensures.looked;
      tells = tells_more old mid c.args.place.now c.args.owners.now c.args.covers.now i (cover_at c.args.covers.now i) c.loop-cover.lists c.in-Some.pieces c.push.new.self (cover_at_hand c.args.covers.now i c.loop-cover-test.true)
          c.loop-cover.invariant.looked c.loop-cover.invariant.tells (rw c.in-Some.is at c.in_ok-found.ensures.ok) (search rules);
    }

pub returns-in_err-found-clause-err : goal.returns-in_err-found-clause-err
returns-in_err-found-clause-err g c =
    all_fail_for (IsOwned c.args.place.now c.args.owners.now) (IsOwned c.args.place.now c.args.owners.now) (g.S.Store.stored c.args.store.now) (g.S.Store.stored c.loop-cover.store) (g.S.Store.stored c.covered.new.store) c.from_residual.result
    (λ tree seen at. at) c.loop-cover.invariant.looked (search rules)

pub returns-in-None-clause-ok : goal.returns-in-None-clause-ok
returns-in-None-clause-ok g c =
    let i = c.loop-cover.cover-index in
    none_covered (g.S.Store.stored c.args.store.now) (g.S.Store.stored c.loop-cover.store) c.args.place.now c.args.owners.now c.args.covers.now i (cover_at c.args.covers.now i) (cover_at_hand c.args.covers.now i c.loop-cover-test.true)
    c.loop-cover.invariant.looked (rw c.in-None.is at c.in_ok-found.ensures.ok)

pub returns-clause-ok : goal.returns-clause-ok
returns-clause-ok g c = tells_all (g.S.Store.stored c.args.store.now) c.args.place.now c.args.owners.now c.args.covers.now c.loop-cover.cover-index c.loop-cover.lists (search rules) c.loop-cover.invariant.tells

pub returns-in_err-found-clause-named : goal.returns-in_err-found-clause-named
returns-in_err-found-clause-named g c =
    let i = c.loop-cover.cover-index in
    let cover = cover_at c.args.covers.now i in
    all_found_by c.args.place.now.name (IsOfWriter cover.writer) (IsOfCover c.args.covers.now) (λ complaint of. (i, cover, cover_at_hand c.args.covers.now i c.loop-cover-test.true, of)) c.from_residual.result (search rules)
