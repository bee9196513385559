use Rattle.std.proofs.Common.{◌≡◌, ◌+◌, ◌*◌, [], drop, length}
use Rattle.flat_format.specs.declared.flat.TheConstants.{COVER_SIZE, HEAD_SIZE}
use Rattle.flatten_core.specs.Covered.{covered as covered_of}
use Rattle.flatten_core.proofs.covered.covered.Given as goal

abbrev pub invariant-loop-cover : goal.invariant-loop-cover
invariant-loop-cover l =
    (covered_of l.droppings HEAD_SIZE l.covers [] ≡ covered_of l.droppings l.place (drop l.cover-index l.covers) l.list)
    × (l.place ≡ HEAD_SIZE + COVER_SIZE * l.cover-index)
    × (length l.list ≡ l.cover-index)
