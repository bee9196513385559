-- What flushes and syncs told, and which events let a dropping be.
use Rattle.std.specs.Prelude.{◌≡◌, ◌≢◌, ◌≤◌, ℕ, List, [], ◌∷◌, Some}
use Rattle.std.specs.List.{Any}
use Rattle.mount_model.specs.declared.row.Row.{Row}
use Rattle.mount_model.specs.declared.call.Call.{Call}
use Rattle.mount_model.specs.declared.call.Call.TheVariants.{Flush, SyncIndex}
use Rattle.mount_model.specs.declared.reply.Reply.TheVariants.{Flushed, Synced}
use Rattle.mount_model.specs.Table.{row_of}
use Rattle.mount_model.specs.State.{State}
use Rattle.mount_model.specs.History.{Event}
use Rattle.reader_laws.specs.Moments.{Moment, Dropping, Stood, landed}

-- the table has the writer, with this room and host
pub record IsOf (state : State) (d : Dropping) : Type 0 where
  pub row : Row
  pub held : row_of d.writer state.table.writers ≡ Some row
  pub room : row.room ≡ d.room
  pub host : row.host ≡ d.host

-- the index dropping stood, and so many of its entries had landed
pub record LandedAtLeast (moment : Moment) (d : Dropping) (count : ℕ) : Type 0 where
  pub stands : Stood moment d
  pub counted : count ≤ landed moment d

-- in these events the writer was told that so many of its entries are synced
abbrev pub IsSyncedIn : List Event → Dropping → ℕ → Type 0
IsSyncedIn events d count = Any (λ (e : Event). (e.ask.call ≡ SyncIndex d.writer) × (e.reply ≡ Synced count) × IsOf e.after d) events

-- in these events the writer was told that so many of its entries have landed
abbrev pub IsFlushedIn : List Event → Dropping → ℕ → Type 0
IsFlushedIn events d count = Any (λ (e : Event). (e.ask.call ≡ Flush d.writer) × (e.reply ≡ Flushed count) × IsOf e.after d) events

-- a call that lands nothing in this index dropping: it doesn't flush its writer
abbrev pub SparesIndex : Call → Dropping → Type 0
SparesIndex (Flush writer) d = writer ≢ d.writer
SparesIndex call d = Unit {0}

abbrev pub AllSpareIndex : List Event → Dropping → Type 0
AllSpareIndex [] d = Unit {0}
AllSpareIndex (e ∷ events) d = SparesIndex e.ask.call d × AllSpareIndex events d
