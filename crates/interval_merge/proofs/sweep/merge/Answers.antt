use Rattle.std.proofs.Common.{◌≡◌, ℕ, [], rules}
use Rattle.plain_file.specs.Sources.{source_at, newer_source}
use Rattle.plain_file.proofs.Facts.{ArePieces-merged}
use Rattle.interval_merge.proofs.sweep.merge.Goals as goal

pub returns-clause-joined : goal.returns-clause-joined
returns-clause-joined c = λ entries others of_a of_b.
    let says : (x : ℕ) → source_at c.of.result x ≡ newer_source (source_at c.args.a.now x) (source_at c.args.b.now x) = λ x. search rules in
    ArePieces-merged entries others [] c.args.a.now c.args.b.now c.of.result of_a of_b (search rules) says
