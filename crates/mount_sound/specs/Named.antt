-- A call that names the writer whose file it makes.
use Rattle.std.specs.Prelude.{◌≡◌, ◌≢◌, ℕ, Some, slice_get}
use Rattle.store_api.specs.declared.tree.Room.{Room}
use Rattle.store_api.specs.declared.tree.Tree.{Tree}
use Rattle.mount_model.specs.declared.call.Call.{Call}
use Rattle.mount_model.specs.declared.call.Call.TheVariants.{InstallFlat, MendMeta}
use Rattle.mount_model.specs.declared.row.Flattening.{Flattening}
use Rattle.mount_model.specs.declared.row.Making.{Making}
use Rattle.mount_model.specs.declared.row.Making.TheVariants as making
use Rattle.mount_model.specs.Recovering.{IsHostAndWriter}
use Rattle.mount_model.specs.State.{State, last_id}
use Rattle.mount_model.specs.Table.{flattening_at}
use Rattle.mount_sound.specs.Shape.{IsDrawnBy}

-- the numbers in the names of what is made fit them
abbrev pub FitsNames : Making → Type 0
FitsNames making.Flat = Unit {0}
FitsNames (making.Pack host writer) = IsHostAndWriter host writer

-- the writer's id has been drawn, where the room of this number is a container
abbrev pub IsDrawnFor : State → ℕ → ℕ → Type 0
IsDrawnFor state number writer =
    (tree : Tree) (room : Room) → state.store.tree ≡ Some tree → slice_get tree.rooms number ≡ Some room → number ≢ state.marks → IsDrawnBy (last_id state) tree writer

-- a packed index is of a writer whose id has been drawn
abbrev pub MakesOfDrawn : State → ℕ → Making → Type 0
MakesOfDrawn state number making.Flat = Unit {0}
MakesOfDrawn state number (making.Pack host writer) = IsHostAndWriter host writer × IsDrawnFor state number writer

-- in its container the call names only a writer whose id has been drawn
abbrev pub NamesDrawnWriter : State → Call → Type 0
NamesDrawnWriter state (MendMeta number host cover last) = IsDrawnFor state number cover.writer
NamesDrawnWriter state (InstallFlat flat) = (f : Flattening) → flattening_at flat state.table.flattenings ≡ Some f → MakesOfDrawn state f.room f.makes
NamesDrawnWriter state call = Unit {0}
