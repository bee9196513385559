use Rattle.std.proofs.Common.{ℕ, arith, subst}
use Rattle.index_pack.specs.Bad.{BreaksAt}
use Rattle.index_pack.specs.Reading.{runs_in}
use Rattle.index_pack.proofs.ReachedLemmas.{steps, stops}
use Rattle.index_pack.proofs.unpacking.entry_count.Goals as goal

pub returns-in_default-clause-bad : goal.returns-in_default-clause-bad
returns-in_default-clause-bad c =
    let P : ℕ → Type 0 = λ w. BreaksAt w 0 0 (runs_in c.args.runs c.args.bytes.now) c.loop-index.index in
    subst P c.first_writer-writer.ensures
    (stops c.first_writer-writer.result c.args.runs c.loop-index.index c.args.bytes.now c.loop-index.so_far.entries c.loop-index.so_far.stamp c.loop-index.so_far.logged
    (omega arith) c.loop-index.invariant c.in_default.ensures.none)

pub loop-index-preserved : goal.loop-index-preserved
loop-index-preserved c =
    steps c.first_writer-writer.result c.args.runs c.loop-index.index c.args.bytes.now c.loop-index.so_far.entries c.loop-index.so_far.stamp c.loop-index.so_far.logged
    c.in-Some.next.entries c.in-Some.next.stamp c.in-Some.next.logged (omega arith) c.loop-index.invariant
    c.in-Some.ensures.valid c.in-Some.ensures.entries c.in-Some.ensures.stamp c.in-Some.ensures.logged c.in-Some.ensures.some
