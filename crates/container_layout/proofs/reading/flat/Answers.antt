use Rattle.container_layout.proofs.Dots.{at_none}
use Rattle.container_layout.proofs.Misses.{no_flat}
use Rattle.container_layout.proofs.reading.flat.Goals as goal

pub returns-in_err-id-in-Some-clause-none : goal.returns-in_err-id-in-Some-clause-none
returns-in_err-id-in-Some-clause-none c =
    at_none c.from_residual.result (no_flat c.args.file.now c.in-Some.rest.now c.in-Some.ensures c.in_err-id-in-Some.ensures.none)
