use Rattle.std.proofs.Common.{◌≡◌, true, false}
use Rattle.container_layout.proofs.Dots.{at_none}
use Rattle.container_layout.proofs.Misses.{no_meta}
use Rattle.container_layout.proofs.reading.meta.Goals as goal

pub returns-in_err-host-clause-none : goal.returns-in_err-host-clause-none
returns-in_err-host-clause-none c =
    at_none c.from_residual-in_err-host.result
    (no_meta c.args.file.now c.in_ok-last.last c.in_ok-last.bytes c.in_ok-last.stamp c.in_ok-last.host c.in_ok-last.writer c.in_ok-last.ensures.found
    (λ range lt. c.in_err-host.ensures lt))

pub returns-then-not-is_meta_range-clause-none : goal.returns-then-not-is_meta_range-clause-none
returns-then-not-is_meta_range-clause-none c =
    no_meta c.args.file.now c.in_ok-last.last c.in_ok-last.bytes c.in_ok-last.stamp c.in_ok-last.host c.in_ok-last.writer c.in_ok-last.ensures.found
    (λ range lt. let yes : false ≡ true = c.if-not-is_meta_range.ensures.1 range in absurd cc)
