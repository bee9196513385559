use Rattle.std.proofs.Common.{◌≡◌, ℕ, rules}
use Rattle.plain_file.specs.Sources.{source_at, kept_source}
use Rattle.plain_file.proofs.Facts.{ArePieces-clipped}
use Rattle.interval_merge.proofs.clipping.clip.Goals as goal

pub returns-clause-truncated : goal.returns-clause-truncated
returns-clause-truncated c = λ entries of_whole.
    let says : (x : ℕ) → source_at c.of.result x ≡ kept_source c.args.truncs.now x (source_at c.args.pieces.now x) = λ x. search rules in
    ArePieces-clipped entries c.args.truncs.now c.args.pieces.now c.of.result of_whole (search rules) says
