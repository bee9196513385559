-- Rows of the table: writers, those who hold a room, and flattenings.
use Rattle.std.specs.Prelude.{ℕ, List, [], ◌∷◌, ◌==◌, ◌&&◌, ◌||◌, Bool, false, nat_lt, Option, Some, None, if◌then◌else◌}
use Rattle.mount_model.specs.declared.row.Row.{Row}
use Rattle.mount_model.specs.declared.row.Stage.{Stage}
use Rattle.mount_model.specs.declared.row.Stage.TheVariants.{Entered, Floored, Housed, Indexed, Open, Closing, Dead}
use Rattle.mount_model.specs.declared.row.Holder.{Holder}
use Rattle.mount_model.specs.declared.row.Flattening.{Flattening}
use Rattle.mount_model.specs.declared.row.FlatStage.{FlatStage}
use Rattle.mount_model.specs.declared.row.FlatStage.TheVariants.{Begun, Put, Synced}

-- the row of the writer of this id
abbrev pub row_of : ℕ → List Row → Option Row
row_of id [] = None
row_of id (row ∷ rows) = if row.id == id then Some row else row_of id rows

-- the rows with this one in place of its writer's
abbrev pub with_row : Row → List Row → List Row
with_row new [] = []
with_row new (row ∷ rows) = if row.id == new.id then new ∷ rows else row ∷ with_row new rows

-- the rows without that of this writer
abbrev pub without_row : ℕ → List Row → List Row
without_row id [] = []
without_row id (row ∷ rows) = if row.id == id then rows else row ∷ without_row id rows

-- how far a stage is
abbrev pub rank : Stage → ℕ
rank Entered = 0
rank Floored = 1
rank Housed = 2
rank Indexed = 3
rank Open = 4
rank Closing = 5
rank Dead = 6

-- the stage is this one
abbrev pub only : Stage → Stage → Bool
only wanted stage = rank stage == rank wanted

-- the writer may close
abbrev pub may_close : Stage → Bool
may_close stage = only Open stage || only Closing stage

abbrev pub is_live : Stage → Bool
is_live stage = nat_lt (rank stage) 6

abbrev pub held_by : ℕ → (Stage → Bool) → Option Row → Option Row
held_by caller stages None = None
held_by caller stages (Some row) = if row.owner == caller && stages row.stage then Some row else None

-- the caller's writer of this id, where its stage is one of these
abbrev pub writer_of : ℕ → (Stage → Bool) → ℕ → List Row → Option Row
writer_of caller stages id rows = held_by caller stages (row_of id rows)

-- the row in another stage
abbrev pub at_stage : Stage → Row → Row
at_stage stage row = record row { stage = stage }

-- ---- those who hold a room

-- who holds by this number
abbrev pub holder_at : ℕ → List Holder → Option Holder
holder_at number [] = None
holder_at number (h ∷ holders) = if h.number == number then Some h else holder_at number holders

-- the holders without that of this number
abbrev pub without_holder : ℕ → List Holder → List Holder
without_holder number [] = []
without_holder number (h ∷ holders) = if h.number == number then holders else h ∷ without_holder number holders

abbrev pub its_hold : ℕ → Option Holder → Option Holder
its_hold caller None = None
its_hold caller (Some h) = if h.owner == caller then Some h else None

-- the caller's hold of this number
abbrev pub holder_of : ℕ → ℕ → List Holder → Option Holder
holder_of caller number holders = its_hold caller (holder_at number holders)

-- whether somebody holds the room of this number
abbrev pub is_held_room : ℕ → List Holder → Bool
is_held_room room [] = false
is_held_room room (h ∷ holders) = h.room == room || is_held_room room holders

-- ---- flattenings

-- the flattening of this id
abbrev pub flattening_at : ℕ → List Flattening → Option Flattening
flattening_at id [] = None
flattening_at id (f ∷ flattenings) = if f.id == id then Some f else flattening_at id flattenings

-- the flattenings with this one in place of that of its id
abbrev pub with_flattening : Flattening → List Flattening → List Flattening
with_flattening new [] = []
with_flattening new (f ∷ flattenings) = if f.id == new.id then new ∷ flattenings else f ∷ with_flattening new flattenings

-- the flattenings without that of this id
abbrev pub without_flattening : ℕ → List Flattening → List Flattening
without_flattening id [] = []
without_flattening id (f ∷ flattenings) = if f.id == id then flattenings else f ∷ without_flattening id flattenings

-- how far a flattening's stage is
abbrev pub flat_rank : FlatStage → ℕ
flat_rank Begun = 0
flat_rank Put = 1
flat_rank Synced = 2

abbrev pub its_flattening : ℕ → FlatStage → Option Flattening → Option Flattening
its_flattening caller stage None = None
its_flattening caller stage (Some f) = if f.owner == caller && flat_rank f.stage == flat_rank stage then Some f else None

-- the caller's flattening of this id, where this is its stage
abbrev pub flattening_of : ℕ → FlatStage → ℕ → List Flattening → Option Flattening
flattening_of caller stage id flattenings = its_flattening caller stage (flattening_at id flattenings)
