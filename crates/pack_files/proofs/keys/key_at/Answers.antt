use Rattle.std.proofs.Common.{List, ap, ◌∙◌}
use Rattle.plain_file.specs.declared.pieces.Piece.{Piece}
use Rattle.pack_files.specs.Keys.{first_key}
use Rattle.pack_files.proofs.FirstKeys.{first_tells, rest_all}
use Rattle.pack_files.proofs.keys.key_at.Goals as goal

pub returns : goal.returns
returns c =
    c.first_key.ensures
    ∙ ap (λ (pieces : List Piece). first_key pieces c.args.place) (rest_all c.first_past-first.result c.args.pieces.now)
    ∙ first_tells c.args.pieces.now c.args.place c.first_past-first.result c.requires c.first_past-first.ensures.first c.first_past-first.ensures.skipped
