use Rattle.std.proofs.Common.{◌≡◌, ap, ◌∙◌, sym, rules}
use Rattle.plain_file.specs.Size.{size_from}
use Rattle.plain_file.proofs.Facts.{size-from_pieces}
use Rattle.interval_merge.proofs.length.size.Goals as goal

pub returns-clause-plain : goal.returns-clause-plain
returns-clause-plain c = λ changes keys bytes are truncs.
    let is : c.size_of.result ≡ size_from c.args.pieces.now c.args.truncs.now = search rules in
    is ∙ ap (size_from c.args.pieces.now) truncs ∙ sym (size-from_pieces changes c.args.pieces.now keys bytes are)
