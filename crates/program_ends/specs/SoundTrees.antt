-- Stores that tell a sound tree.
use Rattle.std.specs.Prelude.{◌≡◌, Option, Some}
use Rattle.store_api.specs.declared.tree.Tree.{Tree}
use Rattle.store_api.specs.Acts.{Stored}
use Rattle.mount_sound.specs.Sound.{IsSoundTree}

-- the store tells its tree, which is sound
abbrev pub TellsSoundTree : Stored → Type 0
TellsSoundTree stored = (tree : Tree) × (stored.tree ≡ Some tree) × IsSoundTree tree

-- the store is handed back, and tells a sound tree
abbrev pub LeavesSoundTree : Option Stored → Type 0
LeavesSoundTree left = (after : Stored) × (left ≡ Some after) × TellsSoundTree after
