use Rattle.std.proofs.Common.{arith}
use Rattle.interval_merge.proofs.SweepLemmas.{IsPart-first, IsPart-second}
use Rattle.interval_merge.proofs.sweep.next_part.Goals as goal

pub returns-then-p-q : goal.returns-then-p-q
returns-then-p-q c =
    IsPart-first c.args.a.now c.args.b.now c.args.from (record { at = 0; len = 0; physical = 0; stamp = 0; writer = 0 }) (omega arith) (omega arith)
    c.requires.a.0 c.requires.b.0 c.if-from-p.true c.if-p-q.true

pub returns-then-q-p : goal.returns-then-q-p
returns-then-q-p c =
    IsPart-second c.args.a.now c.args.b.now c.args.from (record { at = 0; len = 0; physical = 0; stamp = 0; writer = 0 }) (omega arith) (omega arith)
    c.requires.a.0 c.requires.b.0 c.if-from-q.true c.if-q-p.true
