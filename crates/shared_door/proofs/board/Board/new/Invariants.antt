use Rattle.std.proofs.Common.{◌≡◌, length}
use Rattle.shared_door.proofs.board.Board.new.Given as goal

-- one for each place so far
abbrev pub invariant-loop-i : goal.invariant-loop-i
invariant-loop-i l = length l.answered.items ≡ l._i
