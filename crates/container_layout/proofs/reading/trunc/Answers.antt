use Rattle.std.proofs.Common.{◌≡◌, true, false}
use Rattle.container_layout.proofs.Misses.{no_trunc}
use Rattle.container_layout.proofs.reading.trunc.Goals as goal

pub returns-then-not-is_trunc_range-clause-none : goal.returns-then-not-is_trunc_range-clause-none
returns-then-not-is_trunc_range-clause-none c =
    no_trunc c.args.file.now c.in_ok-stamp.stamp c.in_ok-stamp.size c.in_ok-stamp.ensures.found
    (λ range. let yes : false ≡ true = c.if-not-is_trunc_range.ensures.1 range in absurd cc)
