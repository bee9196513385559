use Rattle.std.proofs.Common.{◌≡◌, sym, ap, ◌∙◌, refl, subst, List, [], ◌∷◌, ◌++◌, arith, drop, ◌+◌, ◌*◌}
use Rattle.plain_file.specs.declared.pieces.Piece.{Piece}
use Rattle.index_entry.proofs.Facts.{grows}
use Rattle.flat_format.specs.Valid.{AreFlatPieces}
use Rattle.flat_format.specs.Reading.{piece_in, pieces_in}
use Rattle.flat_format.proofs.Breaking.{breaks}
use Rattle.flat_format.proofs.reading.piece_list.Goals as goal

pub returns-in_default-clause-bad : goal.returns-in_default-clause-bad
returns-in_default-clause-bad c =
    let next : Piece = piece_in (drop (c.args.begin + 40 * c.loop-index.index) c.args.bytes.now) in
    let more : pieces_in c.args.begin (c.loop-index.index + 1) c.args.bytes.now ≡ c.loop-index.pieces.items ++ next ∷ [] =
    grows piece_in 40 c.args.begin c.loop-index.index c.args.bytes.now c.loop-index.pieces.items next c.loop-index.invariant.read refl in
    let seen : c.loop-index.pieces.items ++ next ∷ [] ≡ c.as_slice.result.now ++ next ∷ [] =
    ap (λ (pieces : List Piece). pieces ++ next ∷ []) (sym c.as_slice.ensures.value) in
    let P : List Piece → Type 0 = λ pieces. AreFlatPieces c.args.covers.now pieces in (
      c.loop-index.index,
      breaks (AreFlatPieces c.args.covers.now) piece_in 40 c.args.count c.loop-index.index (drop c.args.begin c.args.bytes.now) (omega arith)
          (subst P c.loop-index.invariant.read c.loop-index.invariant.valid)
          (λ are. c.in_default.ensures.none (subst P (more ∙ seen) are)),
      refl,
    )

pub loop-index-preserved : goal.loop-index-preserved
loop-index-preserved c =
    let next : Piece = c.in-Some.piece in
    let more : pieces_in c.args.begin (c.loop-index.index + 1) c.args.bytes.now ≡ c.loop-index.pieces.items ++ next ∷ [] =
    grows piece_in 40 c.args.begin c.loop-index.index c.args.bytes.now c.loop-index.pieces.items next c.loop-index.invariant.read c.in-Some.ensures.value in
    let seen : c.as_slice.result.now ++ next ∷ [] ≡ c.loop-index.pieces.items ++ next ∷ [] =
    ap (λ (pieces : List Piece). pieces ++ next ∷ []) c.as_slice.ensures.value in
    let P : List Piece → Type 0 = λ pieces. AreFlatPieces c.args.covers.now pieces in
    record {
      read = c.in_ok-push.ensures.items ∙ sym more;
      valid = subst P (seen ∙ sym c.in_ok-push.ensures.items) c.in-Some.ensures.valid;
    }
