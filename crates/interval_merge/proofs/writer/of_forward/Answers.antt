use Rattle.std.proofs.Common.{◌≡◌, ℕ, map, rules}
use Rattle.plain_file.specs.Sources.{source_at}
use Rattle.interval_merge.specs.Writer.{piece_of}
use Rattle.interval_merge.proofs.WriterLemmas.{ArePieces-forward}
use Rattle.interval_merge.proofs.writer.of_forward.Goals as goal

pub returns : goal.returns
returns c =
    let says : (x : ℕ) → source_at c.of.result x ≡ source_at (map piece_of c.args.entries.now) x = λ x. search rules in
    ArePieces-forward c.args.entries.now c.of.result c.requires.forward (search rules) says
