use Rattle.std.proofs.Common.{rules, ℕ, ◌≡◌, [], ◌++◌, ◌+◌, ◌-◌, min, refl, subst, sym}
use Rattle.shape_check.proofs.Facts.{looked_on, looked_same}
use Rattle.tree_laws.specs.Checked.{whole_entries}
use Rattle.tree_check.specs.declared.entries.TheConstants.{PART}
use Rattle.tree_check.specs.Whole.{HasFileOf, HasLength}
use Rattle.tree_check.proofs.Failing.{all_fail_for}
use Rattle.tree_check.proofs.PartLemmas.{HasFirstEntries, file_of, first_entries_all, first_entries_more, first_entries_none}
use Rattle.tree_check.proofs.entries.entries_at.Goals as goal

pub loop-at-init : goal.loop-at-init
loop-at-init g c =
    let none : c.from_vec-entries.result ≡ [] = search rules in
    record {
      looked = looked_same (g.S.Store.stored c.args.store.now);
      first = first_entries_none (g.S.Store.stored c.args.store.now) c.args.place.now c.args.path.now c.args.size c.from_vec-entries.result none;
    }

pub loop-at-preserved : goal.loop-at-preserved
loop-at-preserved g c =
    let old = g.S.Store.stored c.args.store.now in
    let mid = g.S.Store.stored c.loop-at.store in
    let n : ℕ = min (c.args.size - c.loop-at.at) PART in
    let some : c.min.result ≡ n = search rules in
    let added : c.add_entries.new.entries ≡ c.loop-at.entries ++ whole_entries c.as_slice.result.now = search rules in
    record {
      looked = looked_on old mid (g.S.Store.stored c.piece.new.store) c.loop-at.invariant.looked c.piece.ensures.looked;
      first = subst (λ (k : ℕ). HasFirstEntries old c.args.place.now c.args.path.now c.args.size (c.loop-at.at + k) c.add_entries.new.entries) (sym some)
          (first_entries_more old mid c.args.place.now c.args.path.now c.args.size c.loop-at.at PART n c.in_ok-bytes.bytes c.loop-at.entries c.add_entries.new.entries c.loop-at.invariant.looked c.loop-at-test.true refl refl c.in_ok-bytes.ensures.ok
          (rw c.as_slice.ensures at c.add_entries.ensures.bytes) (rw c.as_slice.ensures at added) c.loop-at.invariant.first);
    }

pub returns-in_err-bytes-clause-err : goal.returns-in_err-bytes-clause-err
returns-in_err-bytes-clause-err g c =
    all_fail_for (HasLength c.args.place.now c.args.path.now c.args.size) (HasFileOf c.args.place.now c.args.path.now c.args.size) (g.S.Store.stored c.args.store.now) (g.S.Store.stored c.loop-at.store) (g.S.Store.stored c.piece.new.store)
    c.from_residual-in_err-bytes.result (λ tree seen has. (file_of c.args.place.now c.args.path.now c.args.size c.loop-at.at tree has c.loop-at-test.true).0) c.loop-at.invariant.looked (search rules)

pub returns-clause-ok : goal.returns-clause-ok
returns-clause-ok g c = first_entries_all (g.S.Store.stored c.args.store.now) c.args.place.now c.args.path.now c.args.size c.loop-at.at c.loop-at.entries c.loop-at-test.false c.loop-at.invariant.first
