use Rattle.std.proofs.Common.{arith, ◌<◌, length}
use Rattle.plain_file.specs.declared.pieces.Piece.{Piece}
use Rattle.read_plan.proofs.BracketLemmas.{ended_before, ended_up_to, past_from}
use Rattle.read_plan.proofs.searching.narrowed.Goals as goal

pub returns-then-at-piece-clause-holds : goal.returns-then-at-piece-clause-holds
returns-then-at-piece-clause-holds c =
    let none : Piece = record { at = 0; len = 0; physical = 0; stamp = 0; writer = 0 } in
    let there : c.args.place < length c.args.pieces.now = omega (arith, c.requires.holds.within, c.requires.until) in
    record {
      ordered = c.requires.from;
      within = omega arith;
      ended = c.requires.holds.ended;
      past = past_from c.args.pieces.now c.args.at c.args.place none c.requires.runs there (omega (arith, c.if-at-piece.true));
    }

pub returns-then-at-piece-2-clause-holds : goal.returns-then-at-piece-2-clause-holds
returns-then-at-piece-2-clause-holds c =
    let none : Piece = record { at = 0; len = 0; physical = 0; stamp = 0; writer = 0 } in
    let there : c.args.place < length c.args.pieces.now = omega (arith, c.requires.holds.within, c.requires.until) in
    record {
      ordered = omega arith;
      within = omega arith;
      ended = ended_before c.args.pieces.now c.args.at c.args.place none c.requires.runs there c.if-at-piece.false;
      past = past_from c.args.pieces.now c.args.at c.args.place none c.requires.runs there (omega (arith, c.if-at-piece-2.true, c.if-at-piece.false));
    }

pub returns-else-at-piece-2-clause-holds : goal.returns-else-at-piece-2-clause-holds
returns-else-at-piece-2-clause-holds c =
    let none : Piece = record { at = 0; len = 0; physical = 0; stamp = 0; writer = 0 } in
    let there : c.args.place < length c.args.pieces.now = omega (arith, c.requires.holds.within, c.requires.until) in
    record {
      ordered = omega (arith, c.requires.until);
      within = c.requires.holds.within;
      ended = ended_up_to c.args.pieces.now c.args.at c.args.place none c.requires.runs there (omega (arith, c.if-at-piece-2.false, c.if-at-piece.false));
      past = c.requires.holds.past;
    }
