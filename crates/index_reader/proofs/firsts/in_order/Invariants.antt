use Rattle.std.proofs.Common.{◌≡◌, map}
use Rattle.index_reader.proofs.firsts.in_order.Given as goal

abbrev pub invariant-loop-cover : goal.invariant-loop-cover
invariant-loop-cover l = l.covers ≡ map (λ e. e.1.now) l.yielded
