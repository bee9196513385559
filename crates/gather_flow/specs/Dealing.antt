-- How a container's droppings are dealt to workers.
use Rattle.std.specs.Prelude.{ℕ, ◌+◌, ◌%◌, ◌==◌, Bool, if◌then◌else◌, List, [], ◌∷◌, ◌++◌}
use Rattle.index_reader.specs.declared.listing.Dropping.{Dropping}

-- the dropping, where it belongs to the worker
abbrev pub its_own : Bool → Dropping → List Dropping
its_own belongs d = if belongs then d ∷ [] else []

-- the droppings of one worker, of those from number j on: number j belongs to worker j mod `workers`
abbrev pub dealt_to : ℕ → ℕ → ℕ → List Dropping → List Dropping
dealt_to workers worker j [] = []
dealt_to workers worker j (d ∷ ds) = its_own (j % workers == worker) d ++ dealt_to workers worker (j + 1) ds
