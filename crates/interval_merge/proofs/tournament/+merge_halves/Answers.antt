use Rattle.std.proofs.Common.{◌≡◌, ◌/◌, ◌++◌, List}
use Rattle.plain_file.specs.declared.pieces.Piece.{Piece}
use Rattle.interval_merge.proofs.ListsLemmas.{halves, newest_source-halves}
use Rattle.interval_merge.proofs.tournament.+merge_halves.Goals as goal

pub returns-clause-newest : goal.returns-clause-newest
returns-clause-newest t c =
    let front : List (List Piece) = c.split_off.new.self.items in
    let whole : c.args.lists.items ≡ front ++ c.in_ok-back.back.items = halves c.args.lists.items front c.in_ok-back.back.items (c.len-2.result / 2) c.in_ok-back.ensures.items c.in_ok-back.ensures.tail in
    newest_source-halves c.args.lists.items front c.in_ok-back.back.items c.in_ok-a.a c.in_ok-b.b c.in_ok-merged.merged whole
    c.in_ok-a.ensures.newest c.in_ok-b.ensures.newest c.in_ok-merged.ensures.newer
