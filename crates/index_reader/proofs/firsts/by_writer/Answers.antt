use Rattle.std.proofs.Common.{sym, subst, take}
use Rattle.std.proofs.lemmas.List.{take_more}
use Rattle.index_reader.specs.Firsts.{HasFirsts}
use Rattle.index_reader.proofs.firsts.by_writer.Goals as goal

pub loop-cover-preserved : goal.loop-cover-preserved
loop-cover-preserved c =
    let lt = c.loop-cover-test.true in
    subst (λ ts. HasFirsts ts c.keep_first.new.firsts) (sym (take_more c.args.told.now c.loop-cover.cover-index _ lt))
    (c.in_ok-keep_first.ensures (take c.loop-cover.cover-index c.args.told.now) c.loop-cover.invariant)
