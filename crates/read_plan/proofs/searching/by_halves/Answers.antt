use Rattle.std.proofs.Common.{◌≤◌, List, length, arith}
use Rattle.plain_file.specs.declared.pieces.Piece.{Piece}
use Rattle.read_plan.proofs.RangeLemmas.{EndsPast-drop, pieces_in-skipped}
use Rattle.read_plan.proofs.searching.by_halves.Goals as goal

pub returns : goal.returns
returns c =
    let pieces : List Piece = c.args.pieces.now in
    let at = c.args.at in
    let place = c.loop-left.left.low in
    let bracket = c.loop-left.invariant in
    let within : place ≤ length pieces = omega (arith, bracket.ordered, bracket.within) in
    record {
      within = within;
      first = EndsPast-drop at place pieces (λ k d low high. bracket.past k d (omega (arith, c.loop-left-test.false)) high);
      skipped = λ until. pieces_in-skipped at until place pieces bracket.ended within;
    }
