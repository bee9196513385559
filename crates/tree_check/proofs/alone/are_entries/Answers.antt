use Rattle.std.proofs.Common.{rules, arith}
use Rattle.tree_check.proofs.EntryLemmas.{at_hand, entry_at}
use Rattle.tree_check.proofs.AloneLemmas.{piece_at, piece_at_hand, same_through, same_more}
use Rattle.tree_check.proofs.alone.are_entries.Goals as goal

pub loop-place-preserved : goal.loop-place-preserved
loop-place-preserved c =
    let i = c.loop-place.place in
    same_more c.args.entries.now c.args.pieces.now i (entry_at c.args.entries.now i) (piece_at c.args.pieces.now i) c.is_entry.result c.if-not-is_entry.false c.is_entry.ensures
    (at_hand c.args.entries.now i (search rules)) (piece_at_hand c.args.pieces.now i (omega arith)) c.loop-place.invariant

pub returns : goal.returns
returns c = λ yes. same_through c.args.entries.now c.args.pieces.now c.loop-place.place (omega arith) (omega arith) c.loop-place.invariant
