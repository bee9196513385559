-- The shares of a container's droppings, one a worker.
use Rattle.std.specs.Prelude.{ℕ, ◌-◌, List, [], ◌∷◌, ◌++◌, map}
use Rattle.std.specs.List.{range_with_len}
use Rattle.mount_model.specs.FlowReplies.{Tries, on_ok}
use Rattle.mount_model.specs.Program.{followed_by}
use Rattle.index_reader.specs.declared.listing.Listing.{Listing}
use Rattle.index_reader.specs.declared.sharing.Share.{Share}
use Rattle.index_reader.specs.Sharing.{share_program}
use Rattle.gather_flow.specs.Dealing.{dealt_to}

-- one worker's share of the droppings, behind what the flattened index covers
abbrev pub worker_program : ℕ → Listing → ℕ → Tries Share
worker_program workers listing worker = share_program listing.room (dealt_to workers worker 0 listing.droppings) listing.flat.covers

-- those of so many workers from this one on
abbrev pub programs_from : ℕ → Listing → ℕ → List (Tries Share)
programs_from workers listing worker = map (worker_program workers listing) (range_with_len worker (workers - worker))

-- the shares are read one after the other, behind those so far; the first trouble ends it
abbrev pub by_itself : {R : Type 0} → List (Tries Share) → List Share → (List Share → Tries R) → Tries R
by_itself [] sofar opens = opens sofar
by_itself (program ∷ programs) sofar opens = followed_by program (on_ok (λ share. by_itself programs (sofar ++ share ∷ []) opens))
