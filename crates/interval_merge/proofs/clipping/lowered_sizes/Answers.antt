use Rattle.std.proofs.Common.{◌≡◌, ◌++◌, ◌^◌, ◌∙◌, List, ap, sym, subst, arith}
use Rattle.std.proofs.lemmas.List.{drop_all, append-nil}
use Rattle.plfs_types.specs.declared.entries.Trunc.{Trunc}
use Rattle.interval_merge.specs.Clip.{AreCutsOf}
use Rattle.interval_merge.proofs.CutLemmas.{lowered, AreCutsOf-lowered}
use Rattle.interval_merge.proofs.clipping.lowered_sizes.Goals as goal

pub returns : goal.returns
returns c =
    let order = c.args.order.now in
    let cuts = c.loop-trunc.cuts.items in
    let all : cuts ≡ lowered (2 ^ 40) order =
    sym (ap (λ ts. cuts ++ lowered c.loop-trunc.least ts) (drop_all c.loop-trunc.trunc-index order (omega arith)) ∙ append-nil cuts) ∙ c.loop-trunc.invariant in
    let P : List Trunc → Type 0 = λ ts. AreCutsOf order ts in
    subst P (sym all) (AreCutsOf-lowered order c.requires)
