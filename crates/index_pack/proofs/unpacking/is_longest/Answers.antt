use Rattle.std.proofs.Common.{refl}
use Rattle.index_pack.proofs.ReachedLemmas.{last_ends}
use Rattle.index_pack.proofs.unpacking.is_longest.Goals as goal

pub returns-then-index-runs : goal.returns-then-index-runs
returns-then-index-runs c = (λ test. last_ends c.args.runs c.args.index c.args.bytes.now c.args.run.now c.if-index-runs.true, λ ends. refl)
