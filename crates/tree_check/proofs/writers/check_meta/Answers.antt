use Rattle.std.proofs.Common.{rules, inr}
use Rattle.shape_check.specs.Files.{IsPlaced}
use Rattle.shape_check.proofs.Facts.{all_found_by, looked_same}
use Rattle.mount_model.specs.Paths.{index_path}
use Rattle.tree_check.specs.Concerning.{IsOfEntries, IsOfFile, IsOfLeft}
use Rattle.tree_check.specs.Known.{IsAtWork}
use Rattle.tree_check.proofs.DroppingLemmas.{orderly_landed}
use Rattle.tree_check.proofs.Failing.{all_fail_for}
use Rattle.tree_check.proofs.OfItem.{between_named, left_named}
use Rattle.tree_check.proofs.WriterLemmas.{left_beside_fails, left_so, wrong_fails}
use Rattle.tree_check.proofs.writers.check_meta.Goals as goal

pub returns-in_err-dropping-clause-err : goal.returns-in_err-dropping-clause-err
returns-in_err-dropping-clause-err g c =
    let old = g.S.Store.stored c.args.store.now in
    all_fail_for (IsAtWork c.args.place.now c.args.truncs.now c.args.path.now) (IsPlaced c.args.place.now) old old (g.S.Store.stored c.take_dropping.new.store) c.from_residual.result (λ tree seen at. at.placed) (looked_same old) (search rules)

pub judge_left-requires-clause-in_order : goal.judge_left-requires-clause-in_order
judge_left-requires-clause-in_order g c = orderly_landed c.args.left.now.writer c.in_ok-dropping.dropping c.in_ok-dropping.ensures.orderly

pub judge_left-requires-clause-within : goal.judge_left-requires-clause-within
judge_left-requires-clause-within g c = c.in_ok-dropping.ensures.orderly.within

pub returns-in_err-judge_left-clause-err : goal.returns-in_err-judge_left-clause-err
returns-in_err-judge_left-clause-err g c =
    wrong_fails c.args.place.now c.args.truncs.now c.args.path.now c.args.left.now c.requires.at c.in_ok-dropping.dropping (g.S.Store.stored c.args.store.now) (g.S.Store.stored c.take_dropping.new.store) c.from_residual-in_err-judge_left.result c.in_ok-dropping.ensures.ok (search rules)

pub landed-requires : goal.landed-requires
landed-requires g c = c.in_ok-dropping.ensures.orderly.within

pub check_beside-requires : goal.check_beside-requires
check_beside-requires g c = rw c.landed.ensures (orderly_landed c.args.left.now.writer c.in_ok-dropping.dropping c.in_ok-dropping.ensures.orderly)

pub returns-clause-ok : goal.returns-clause-ok
returns-clause-ok g c =
    left_so c.args.place.now c.args.truncs.now c.args.path.now c.args.left.now c.requires.at c.in_ok-dropping.dropping (g.S.Store.stored c.args.store.now) c.check_beside.result c.in_ok-dropping.ensures.ok c.in_ok-judge_left.ensures.ok (rw c.landed.ensures at c.check_beside.ensures.ok)

pub returns-clause-err : goal.returns-clause-err
returns-clause-err g c =
    left_beside_fails c.args.place.now c.args.truncs.now c.args.path.now c.args.left.now c.requires.at c.in_ok-dropping.dropping (g.S.Store.stored c.args.store.now) (g.S.Store.stored c.take_dropping.new.store) c.check_beside.result c.in_ok-dropping.ensures.ok (rw c.landed.ensures at c.check_beside.ensures.err)

pub returns-in_err-dropping-clause-named : goal.returns-in_err-dropping-clause-named
returns-in_err-dropping-clause-named g c =
    let left = c.args.left.now in
    all_found_by c.args.place.now.name (IsOfEntries (index_path left.host left.writer)) (IsOfLeft c.args.path.now left.host left.writer) (λ complaint of. inr of.0) c.from_residual.result (search rules)

pub returns-in_err-judge_left-clause-named : goal.returns-in_err-judge_left-clause-named
returns-in_err-judge_left-clause-named g c = left_named c.args.place.now.name c.args.path.now c.args.left.now c.in_ok-dropping.dropping c.from_residual-in_err-judge_left.result (search rules)

pub returns-clause-named : goal.returns-clause-named
returns-clause-named g c =
    let left = c.args.left.now in
    all_found_by c.args.place.now.name (IsOfFile (index_path left.host left.writer)) (IsOfLeft c.args.path.now left.host left.writer) (λ complaint of. inr of) c.check_beside.result
    (between_named c.args.place.now.name left.host left.writer c.landed.result.now c.args.truncs.now c.check_beside.result c.check_beside.ensures.err)
