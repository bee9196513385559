-- A writer, a holder or a flattening comes into the table before its act, so that no memory is wanted after it.
use Rattle.std.specs.Prelude.{◌≡◌, ◌≢◌, ◌⊎◌, ℕ, ◌+◌, ◌<◌, List, [], ◌∷◌, ◌++◌, Some, None}
use Rattle.mount_model.specs.declared.row.Row.{Row}
use Rattle.mount_model.specs.declared.row.Holder.{Holder}
use Rattle.mount_model.specs.declared.row.Flattening.{Flattening}
use Rattle.mount_model.specs.declared.row.Making.{Making}
use Rattle.mount_model.specs.declared.reply.Reply.{Reply}
use Rattle.mount_model.specs.declared.reply.Reply.TheVariants.{Refused, NoMemory}
use Rattle.mount_model.specs.declared.reply.Refusal.{Refusal}
use Rattle.mount_model.specs.Entering.{draw_check, entered, next_id}
use Rattle.mount_model.specs.Holding.{holding}
use Rattle.mount_model.specs.Flattening.{begun_flat}
use Rattle.std.specs.List.{All}
use Rattle.mount_model.specs.Regular.{IsCounted, IsDrawn}
use Rattle.mount_table.specs.Roll.{Roll, bare}

-- the next serial is drawn
abbrev pub with_next : Roll → Roll
with_next roll = record roll { serial = roll.serial + 1 }

-- these are the writers
abbrev pub with_writers : List Row → Roll → Roll
with_writers rows roll = record roll { table = record roll.table { writers = rows } }

-- these hold rooms
abbrev pub with_holders : List Holder → Roll → Roll
with_holders holders roll = record roll { table = record roll.table { holders = holders } }

-- these are the flattenings
abbrev pub with_flattenings : List Flattening → Roll → Roll
with_flattenings flattenings roll = record roll { table = record roll.table { flattenings = flattenings } }

-- the next serial was drawn, whose id is above those of all writers, holders and flattenings
pub record IsNextId (room : ℕ) (old : Roll) (id : ℕ) (new : Roll) : Type 0 where
  pub granted : draw_check (bare old) room ≡ None
  pub apart : room ≢ old.marks
  pub id_is : id ≡ next_id (bare old)
  pub left : new ≡ with_next old
  pub above : All (λ (row : Row). row.id < id) old.table.writers
  pub above_holders : All (λ (h : Holder). h.number < id) old.table.holders
  pub above_flattenings : All (λ (f : Flattening). f.id < id) old.table.flattenings

-- a writer that may be added at the end of the table
pub record IsNewcomer (roll : Roll) (row : Row) : Type 0 where
  pub counted : IsCounted row
  pub drawn : IsDrawn (bare roll) row.id
  pub apart : row.room ≢ roll.marks
  pub above : All (λ (other : Row). other.id < row.id) roll.table.writers

-- a holder that may be added at the end of the table
pub record IsNewHolder (roll : Roll) (h : Holder) : Type 0 where
  pub drawn : IsDrawn (bare roll) h.number
  pub apart : h.room ≢ roll.marks
  pub above : All (λ (other : Holder). other.number < h.number) roll.table.holders

-- a flattening that may be added at the end of the table
pub record IsNewFlattening (roll : Roll) (f : Flattening) : Type 0 where
  pub drawn : IsDrawn (bare roll) f.id
  pub apart : f.room ≢ roll.marks
  pub above : All (λ (other : Flattening). other.id < f.id) roll.table.flattenings

-- the next serial was drawn, and its writer is the last one in the table
pub record IsAdmitted (caller room host cap : ℕ) (old : Roll) (id : ℕ) (new : Roll) : Type 0 where
  pub granted : draw_check (bare old) room ≡ None
  pub id_is : id ≡ next_id (bare old)
  pub left : new ≡ with_next (with_writers (old.table.writers ++ entered (bare old) caller room host cap ∷ []) old)

-- the next serial was drawn, and its holder is the last one in the table
pub record IsHolderAdmitted (caller room : ℕ) (old : Roll) (h : Holder) (new : Roll) : Type 0 where
  pub granted : draw_check (bare old) room ≡ None
  pub is : h ≡ holding (bare old) caller room
  pub left : new ≡ with_next (with_holders (old.table.holders ++ holding (bare old) caller room ∷ []) old)

-- the next serial was drawn, and its flattening is the last one in the table
pub record IsFlatAdmitted (caller room : ℕ) (makes : Making) (old : Roll) (f : Flattening) (new : Roll) : Type 0 where
  pub granted : draw_check (bare old) room ≡ None
  pub is : f ≡ begun_flat (bare old) caller room makes
  pub left : new ≡ with_next (with_flattenings (old.table.flattenings ++ begun_flat (bare old) caller room makes ∷ []) old)

-- it was refused, or memory was once the serial was drawn
abbrev pub IsTurnedAway : ℕ → Roll → Reply → Roll → Type 0
IsTurnedAway room old reply new =
    ((why : Refusal) × (draw_check (bare old) room ≡ Some why) × (reply ≡ Refused why) × (new ≡ old))
    ⊎ ((draw_check (bare old) room ≡ None) × (reply ≡ NoMemory) × (new ≡ with_next old))
