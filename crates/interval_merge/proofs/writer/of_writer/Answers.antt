use Rattle.std.proofs.Common.{◌≡◌, ◌++◌, List, sym, subst}
use Rattle.std.specs.List.{All}
use Rattle.std.proofs.lemmas.List.Elements.{All-drop}
use Rattle.plfs_types.specs.declared.entries.Entry.{Entry}
use Rattle.plain_file.specs.declared.pieces.Piece.{Piece}
use Rattle.interval_merge.specs.Writer.{HasPiece}
use Rattle.interval_merge.proofs.WriterLemmas.{Grouped, Grouped-more, cut_in_two}
use Rattle.interval_merge.proofs.writer.of_writer.Goals as goal

pub loop-rest-preserved : goal.loop-rest-preserved
loop-rest-preserved c =
    let left : List Entry = c.loop-rest.rest.now in
    let n = c.forward_len.result in
    let cut : left ≡ c.split_at.result.0.now ++ c.split_at.result.1.now = cut_in_two _ _ _ _ c.split_at.ensures.front c.split_at.ensures.back in
    let P : List (List Piece) → Type 0 = λ lists. Grouped lists c.split_at.result.1.now c.args.entries.now in
    let Q : List Entry → Type 0 = λ es. All HasPiece es in
    record {
      grouped = subst P (sym c.in_ok-push.ensures.ok) (Grouped-more c.loop-rest.lists c.in_ok-of_forward.field-0 left c.split_at.result.0.now c.split_at.result.1.now c.args.entries.now
          c.loop-rest.invariant.grouped cut c.in_ok-of_forward.ensures);
      valid = subst Q (sym c.split_at.ensures.back) (All-drop HasPiece n left c.loop-rest.invariant.valid);
    }
