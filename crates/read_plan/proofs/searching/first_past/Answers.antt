use Rattle.std.proofs.Common.{◌<◌, length, arith}
use Rattle.plain_file.specs.declared.pieces.Piece.{Piece}
use Rattle.read_plan.proofs.RangeLemmas.{pieces_in-skipped}
use Rattle.read_plan.proofs.BracketLemmas.{ended_before}
use Rattle.read_plan.proofs.searching.first_past.Goals as goal

pub returns-then-has_byte-clause-skipped : goal.returns-then-has_byte-clause-skipped
returns-then-has_byte-clause-skipped c = λ until.
    let none : Piece = record { at = 0; len = 0; physical = 0; stamp = 0; writer = 0 } in
    let pieces = c.args.pieces.now in
    let place = c.expected_place-expected.result in
    let there : place < length pieces = omega (arith, c.expected_place-expected.ensures.until, c.rounds.invariant.within) in
    let here = c.has_byte.ensures.0 c.if-has_byte.true in
    pieces_in-skipped c.args.at until place pieces (ended_before pieces c.args.at place none c.requires there here.0) (omega arith)
