use Rattle.shared_door.specs.Places.{NoneIsFree}
use Rattle.shared_door.proofs.board.State.free_place.Given as goal

-- none so far is free
abbrev pub invariant-loop-place : goal.invariant-loop-place
invariant-loop-place l = NoneIsFree l.self.places.items l.place
