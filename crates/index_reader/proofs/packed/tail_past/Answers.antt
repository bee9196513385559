use Rattle.std.proofs.Common.{◌≡◌, ◌∙◌, List, All, ap, drop, sym, subst}
use Rattle.plfs_types.specs.declared.entries.Entry.{Entry}
use Rattle.interval_merge.specs.Writer.{HasPiece}
use Rattle.index_reader.proofs.Indices.PackedLemmas.{pieces_of_one}
use Rattle.index_reader.proofs.packed.tail_past.Goals as goal

pub returns-clause-pieces : goal.returns-clause-pieces
returns-clause-pieces c =
    let all : c.from_vec.result ≡ drop c.min-covered.result c.args.entries = c.from_vec.ensures ∙ c.in_ok-rest.ensures ∙ ap (λ (es : List Entry). drop c.min-covered.result es) c.into_vec-all.ensures in
    subst (All HasPiece) (sym all) (pieces_of_one c.min-covered.result c.args.entries c.requires)
