use Rattle.std.proofs.Common.{arith}
use Rattle.container_layout.proofs.Dots.{at_none}
use Rattle.container_layout.proofs.Misses.{one_host}
use Rattle.container_layout.proofs.reading.host_and_writer.Goals as goal

pub returns-in_err-host-2-clause-none : goal.returns-in_err-host-2-clause-none
returns-in_err-host-2-clause-none c =
    at_none c.from_residual-in_err-host-2.result (λ h w lt are.
    let same = one_host c.args.text.now c.in_ok-host.host c.in_ok-host.writer h w c.in_ok-host.ensures.found are in
    c.in_err-host-2.ensures (omega (arith, same, lt)))
