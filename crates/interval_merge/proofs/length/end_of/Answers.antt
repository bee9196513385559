use Rattle.std.proofs.Common.{sym, arith}
use Rattle.plain_file.specs.Runs.{IsPiece}
use Rattle.plain_file.proofs.Facts.{last_ends, last_piece}
use Rattle.interval_merge.proofs.length.end_of.Goals as goal

pub overflow_add-result : goal.overflow_add-result
overflow_add-result c =
    let is : IsPiece c.in-Some.last.now = last_piece c.args.pieces.now c.in-Some.last.now c.requires (sym c.in-Some.ensures.value) in
    omega (arith, is.within)

pub returns-in-Some : goal.returns-in-Some
returns-in-Some c = last_ends c.args.pieces.now c.in-Some.last.now c.requires (sym c.in-Some.ensures.value)
