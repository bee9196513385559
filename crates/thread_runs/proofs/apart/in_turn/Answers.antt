use Rattle.std.proofs.Common.{◌<◌, length, slice_index_or, arith}
use Rattle.thread_runs.specs.Apart.{Leaves}
use Rattle.thread_runs.proofs.Each.{any_default, changed_more}
use Rattle.thread_runs.proofs.apart.in_turn.Goals as goal

pub loop-index-preserved : goal.loop-index-preserved
loop-index-preserved g c =
    let inv = c.loop-index.invariant in
    let i = c.loop-index.index in
    let olds = c.args.items.now in
    let nows = c.loop-index.items in
    let p = slice_index_or nows i c.index-items-index.result in
    let len = inv.len in
    let inside : i < length olds = omega (arith, len) in
    changed_more (Leaves g.F.Fn c.args.f.now) i olds nows p c.at_one.new.item inv inside (any_default nows i p c.index-items-index.result (omega (arith, len))) c.at_one.ensures

pub returns : goal.returns
returns g c =
    let inv = c.loop-index.invariant in
    let len = inv.len in
    record { len = len; each = λ i d lt. inv.done i d (omega (arith, len)) }
