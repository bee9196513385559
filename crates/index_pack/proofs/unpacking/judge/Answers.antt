use Rattle.std.proofs.Common.{arith}
use Rattle.index_pack.proofs.Judging.{bad_run, bad_count}
use Rattle.index_pack.proofs.unpacking.judge.Goals as goal

pub returns-in-Err-entry_count-clause-bad : goal.returns-in-Err-entry_count-clause-bad
returns-in-Err-entry_count-clause-bad c =
    bad_run c.args.bytes.now c.in-Ok.counts.1 c.in-Err-entry_count.index (λ i. omega (arith, c.type_inv.bytes i))
    c.in-Ok.ensures.head.0 c.in-Ok.ensures.head.1 c.in-Ok.ensures.head.2 c.in-Ok.ensures.counts.1 c.in-Err-entry_count.ensures.bad

pub returns-else-total-count-clause-bad : goal.returns-else-total-count-clause-bad
returns-else-total-count-clause-bad c =
    bad_count c.args.bytes.now c.in-Ok.counts.1 (λ i. omega (arith, c.type_inv.bytes i))
    c.in-Ok.ensures.head.0 c.in-Ok.ensures.head.1 c.in-Ok.ensures.head.2 c.in-Ok.ensures.counts.1 c.in-Ok-entry_count.ensures.valid
    (λ same. omega (arith, c.if-total-count.false, same, c.in-Ok-entry_count.ensures.entries, c.in-Ok.ensures.counts.0))
