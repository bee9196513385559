use Rattle.container_layout.proofs.Misses.{no_hostdir}
use Rattle.container_layout.proofs.reading.of_hostdir.Goals as goal

pub returns-then-ne-clause-none : goal.returns-then-ne-clause-none
returns-then-ne-clause-none c = λ h w lt are same.
    no_hostdir c.args.folder.now c.hostdir.result c.args.text.now c.in_ok-host.host c.in_ok-host.writer h w
    c.in_ok-host.ensures.found.1 are c.hostdir.ensures c.if-ne.ensures same
