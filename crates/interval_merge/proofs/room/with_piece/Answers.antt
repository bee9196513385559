use Rattle.std.proofs.Common.{◌≡◌, ℕ, ◌+◌, ◌-◌, ◌<◌, ◌≤◌, List, take, length, refl, subst, arith}
use Rattle.std.proofs.lemmas.Bool.{iff_false}
use Rattle.plain_file.specs.declared.pieces.Piece.{Piece}
use Rattle.plain_file.specs.Runs.{AreRuns}
use Rattle.interval_merge.proofs.SweepLemmas.{last_is_piece}
use Rattle.interval_merge.proofs.RoomLemmas.{last_laid, Extends-longer, Extends-laid_first, Extends-laid_more}
use Rattle.interval_merge.proofs.room.with_piece.Goals as goal
use Rattle.interval_merge.proofs.room.with_piece.Goals.{then-count-gt0+else-joins, else-count-gt0}

pub joins-requires : goal.joins-requires
joins-requires c =
    let items : List Piece = c.args.items.now.items in
    let l : Piece = c.index.result.now in
    let le : c.args.count ≤ length items = omega (arith, c.requires.room, c.args.items.now.ok.0) in
    let P : List Piece → Type 0 = λ ps. AreRuns ps in
    last_is_piece (take (c.args.count - 1) items) l (subst P (last_laid items c.args.count l c.if-count-gt0.true le c.index.ensures) c.requires.runs)

pub returns-then-joins-clause-extends : goal.returns-then-joins-clause-extends
returns-then-joins-clause-extends c =
    let items : List Piece = c.args.items.now.items in
    let l : Piece = c.index.result.now in
    let p : Piece = c.args.piece in
    let m : Piece = record { at = l.at; len = l.len + p.len; physical = l.physical; stamp = l.stamp; writer = l.writer } in
    let le : c.args.count ≤ length items = omega (arith, c.requires.room, c.args.items.now.ok.0) in
    Extends-longer items c.args.count l p m c.if-count-gt0.true le c.index.ensures c.requires.runs c.requires.piece.1 (c.joins.ensures.0 c.if-joins.true) c.requires.piece.0
    (record { at = refl; physical = refl; stamp = refl; writer = refl }) refl

pub returns-clause-extends : goal.returns-clause-extends
returns-clause-extends c =
    let items : List Piece = c.args.items.now.items in
    let lt : c.args.count < length items = omega (arith, c.requires.room, c.args.items.now.ok.0) in
    elim c.if-count-gt0.branch [
      | then-count-gt0+else-joins w ↦ Extends-laid_more items c.args.count w.index.result.now c.args.piece w.if-count-gt0.true lt w.index.ensures c.requires.runs c.requires.piece.1
          (iff_false w.joins.ensures w.if-joins.false) c.requires.piece.0
      | else-count-gt0 w ↦ Extends-laid_first items c.args.count c.args.piece (omega (arith, w.if-count-gt0.false)) lt c.requires.piece.0
    ]
