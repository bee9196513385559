-- Which room has a name.
use Rattle.std.specs.Prelude.{◌≡◌, ℕ, Some}
use Rattle.store_api.specs.declared.tree.Tree.{Tree}
use Rattle.store_laws.specs.There.{IsRoomOf}
use Rattle.mount_model.specs.Paths.{Name}
use Rattle.reader_laws.specs.Moments.{Moment}

-- the room of this number is the first that has this name, as the store tells its rooms
abbrev pub IsRoomNamed : Moment → Name → ℕ → Type 0
IsRoomNamed moment name room = (tree : Tree) → moment.state.store.tree ≡ Some tree → IsRoomOf tree name room
