use Rattle.std.proofs.Common.{List, subst}
use Rattle.plfs_types.specs.declared.entries.Trunc.{Trunc}
use Rattle.interval_merge.specs.Clip.{AreCutsOf}
use Rattle.interval_merge.proofs.CutLemmas.{AreCutsOf-permuted}
use Rattle.interval_merge.proofs.clipping.cuts_of.Goals as goal

pub returns : goal.returns
returns c =
    let P : List Trunc → Type 0 = λ order. AreCutsOf order c.in_ok-cuts.cuts.items in
    AreCutsOf-permuted c.args.truncs.now c.in_ok-order.order.items c.in_ok-cuts.cuts.items c.in_ok-order.ensures.same
    (subst P c.as_slice.ensures.value c.in_ok-cuts.ensures)
