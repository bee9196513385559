use Rattle.std.proofs.Common.{rules, refl}
use Rattle.std.proofs.lemmas.Bool.{false≢true}
use Rattle.tree_check.proofs.DroppingLemmas.{trunc_at, trunc_at_hand}
use Rattle.tree_check.proofs.TruncLemmas.{other_all, other_found, other_not}
use Rattle.tree_check.proofs.truncates.has_other.Goals as goal

pub returns-then-is_other : goal.returns-then-is_other
returns-then-is_other c =
    let i = c.loop-other.other-index in (
      λ yes. other_found c.args.truncs.now c.args.trunc.now i (trunc_at c.args.truncs.now i) c.is_other.result (trunc_at_hand c.args.truncs.now i c.loop-other-test.true) c.if-is_other.true c.is_other.ensures,
      λ has. refl,
    )

pub loop-other-preserved : goal.loop-other-preserved
loop-other-preserved c =
    let i = c.loop-other.other-index in
    other_not c.args.truncs.now c.args.trunc.now i (trunc_at c.args.truncs.now i) c.is_other.result (trunc_at_hand c.args.truncs.now i c.loop-other-test.true) c.if-is_other.false c.is_other.ensures c.loop-other.invariant

pub returns : goal.returns
returns c = (
  λ yes. absurd (false≢true yes),
  λ has. absurd (other_all c.args.truncs.now c.args.trunc.now c.loop-other.other-index (search rules) c.loop-other.invariant has),
)
