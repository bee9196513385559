-- A plain machine has what a mount and its tree have.
use Rattle.std.specs.Prelude.{◌≡◌, ◌⊎◌, ◌≤◌, ◌<◌, ◌==◌, ◌&&◌, ℕ, Bool, false, not, List, [], ◌∷◌, Option, Some, None, is_some, slice_get}
use Rattle.std.specs.List.{AllByRecursion, Any}
use Rattle.container_layout.specs.declared.items.Item.TheVariants.{OpenHost}
use Rattle.store_api.specs.declared.tree.Room.{Room}
use Rattle.store_api.specs.declared.tree.Tree.{Tree}
use Rattle.store_api.specs.Room.{has_folder}
use Rattle.mount_model.specs.declared.row.Row.{Row}
use Rattle.mount_model.specs.Paths.{open_path}
use Rattle.container_layout.specs.Paths.{openhosts}
use Rattle.mount_model.specs.State.{last_id}
use Rattle.mount_model.specs.Table.{is_live, row_of}
use Rattle.reader_laws.specs.GatheringListing.{AreTruncsAt}
use Rattle.reader_laws.specs.Moments.{Dropping, HadItem, IsNamed, IsSoundAt, Moment, file_then, issued_by, landed}
use Rattle.writer_flow.specs.declared.handle.WriterHandle.{WriterHandle}
use Rattle.plain_machine.specs.Machine.{Plain, PlainOwn, PlainRoom, PlainWriter}
use Rattle.plain_machine.specs.Finding.{owned_writer}
use Rattle.plain_plays.specs.Plainly.{MirrorsOwn, dropping_of}

-- ---- a writer

-- whether this row is one of a writer in the room of this number, and live
abbrev pub is_live_in : ℕ → Option Row → Bool
is_live_in number None = false
is_live_in number (Some row) = is_live row.stage && row.room == number

-- The writer's id was drawn, it issued these writes, and so many have landed. It has the room open where its entry stands there, and an actor has it where the
-- table has it, live.
pub record MirrorsWriter (m : Moment) (number : ℕ) (w : PlainWriter) : Type 0 where
  pub named : IsNamed (dropping_of number w)
  pub drawn : w.id ≤ last_id m.state
  pub issued : issued_by m (dropping_of number w) ≡ w.issued
  pub landed_is : landed m (dropping_of number w) ≡ w.landed
  pub opens : is_some (file_then m number (open_path w.host w.id)) ≡ w.is_open
  pub owned : is_live_in number (row_of w.id m.state.table.writers) ≡ w.is_owned

-- each id is below those behind it
abbrev pub IdsRise : List PlainWriter → Type 0
IdsRise [] = Unit {0}
IdsRise (w ∷ writers) = AllByRecursion (λ (later : PlainWriter). w.id < later.id) writers × IdsRise writers

-- ---- a room

-- something of the writer has landed, or it has its room open
abbrev pub HasTrace : Moment → Dropping → Type 0
HasTrace m d = (1 ≤ landed m d) ⊎ HadItem m d.room (OpenHost d.host d.writer)

-- The room has this name and these truncates. It is held where no folder lets writers in, but for the room of the marks. Its writers are those of whom there is
-- a trace, and maybe such as left none.
pub record MirrorsRoom (m : Moment) (number : ℕ) (r : Room) (room : PlainRoom) : Type 0 where
  pub name : r.name ≡ room.name
  pub held : (number ≡ m.state.marks → ⊥) → has_folder r openhosts ≡ not room.is_held
  pub truncs : AreTruncsAt m number room.truncs
  pub writers : AllByRecursion (MirrorsWriter m number) room.writers
  pub rise : IdsRise room.writers
  pub all : (d : Dropping) → IsNamed d → d.room ≡ number → HasTrace m d → Any (λ (w : PlainWriter). dropping_of number w ≡ d) room.writers

-- the room of this number, as the store tells it
abbrev pub room_told : Option Tree → ℕ → Option Room
room_told None number = None
room_told (Some tree) number = slice_get tree.rooms number

abbrev pub room_then : Moment → ℕ → Option Room
room_then m number = room_told m.state.store.tree number

-- both are there, or neither is
abbrev pub MirrorsAt : Moment → ℕ → Option Room → Option PlainRoom → Type 0
MirrorsAt m number None None = Unit {0}
MirrorsAt m number (Some r) (Some room) = MirrorsRoom m number r room
MirrorsAt m number _ _ = ⊥

-- ---- the machine

-- The machine has the rooms of the tree under their numbers, the clock's times, the mark and the last serial. Nobody holds a room, so no statement is under
-- way. What actors have stands beside it.
pub record Mirrors (m : Moment) (p : Plain) : Type 0 where
  pub sound : IsSoundAt m
  pub rooms : (number : ℕ) → MirrorsAt m number (room_then m number) (slice_get p.rooms number)
  pub times : m.state.times ≡ p.times
  pub mark : m.state.mount ≡ p.mark
  pub serial : m.state.serial ≡ p.serial
  pub none_hold : m.state.table.holders ≡ []

-- the actor's handle is of the writer that the machine gives it, or it has none of both
abbrev pub MirrorsHandle : Moment → ℕ → Plain → Option WriterHandle → Option PlainOwn → Type 0
MirrorsHandle m me p None None = Unit {0}
MirrorsHandle m me p (Some handle) (Some own) = (w : PlainWriter) × (owned_writer p own ≡ Some w) × MirrorsOwn me own.room handle w m
MirrorsHandle m me p _ _ = ⊥
