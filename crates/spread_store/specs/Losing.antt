-- A loss of power of all stores.
use Rattle.std.specs.Prelude.{◌≡◌, ℕ, Option, Some, None, slice_get}
use Rattle.store_api.specs.declared.tree.Tree.{Tree}
use Rattle.store_api.specs.Loss.{Loses}
use Rattle.spread_store.specs.Joined.{Held}

-- what a store tells has lost what a loss takes; one that doesn't tell still doesn't
abbrev pub LosesAt : Option (Option Tree) → Option (Option Tree) → Type 0
LosesAt None new = new ≡ None
LosesAt (Some None) new = new ≡ Some None
LosesAt (Some (Some tree)) new = (after : Tree) × (new ≡ Some (Some after)) × Loses tree after

-- each store has lost what a loss of power takes from it
abbrev pub LoseEach : Held → Held → Type 0
LoseEach old new = (store : ℕ) → LosesAt (slice_get old store) (slice_get new store)
