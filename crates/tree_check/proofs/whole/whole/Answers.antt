use Rattle.std.proofs.Common.{rules, ℕ, ◌≡◌, ◌+◌, ◌-◌, min, subst, sym}
use Rattle.plfs_types.specs.declared.limits.TheConstants.{MAX_PIECE}
use Rattle.shape_check.proofs.Facts.{looked_on}
use Rattle.tree_check.proofs.WholeLemmas.{HasFirst, first_all, first_more}
use Rattle.tree_check.proofs.whole.whole.Goals as goal

pub loop-at-preserved : goal.loop-at-preserved
loop-at-preserved g c =
    let old = g.S.Store.stored c.args.store.now in
    let mid = g.S.Store.stored c.loop-at.store in
    let some : c.min-at.result ≡ min (c.args.size - c.loop-at.at) MAX_PIECE = search rules in
    record {
      looked = looked_on old mid (g.S.Store.stored c.piece.new.store) c.loop-at.invariant.looked c.piece.ensures.looked;
      first = subst (λ (n : ℕ). HasFirst old c.args.place.now c.args.path.now c.args.size (c.loop-at.at + n) c.extend_from_slice.new.self.items) (sym some)
          (first_more old mid c.args.place.now c.args.path.now c.args.size c.loop-at.at (min (c.args.size - c.loop-at.at) MAX_PIECE) c.loop-at.all.items c.in_ok-bytes.bytes c.extend_from_slice.new.self.items c.loop-at.invariant.looked c.loop-at.invariant.first c.in_ok-bytes.ensures.ok (search rules));
    }

pub returns-clause-ok : goal.returns-clause-ok
returns-clause-ok g c =
    rw c.from_vec.ensures (first_all (g.S.Store.stored c.args.store.now) c.args.place.now c.args.path.now c.args.size c.loop-at.at c.loop-at.all.items c.loop-at-test.false c.loop-at.invariant.first)
