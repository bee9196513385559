-- A plain machine, which takes each statement in one step: what it has.
use Rattle.std.specs.Prelude.{ℕ, Bool, List, Option}
use Rattle.plfs_types.specs.declared.entries.Trunc.{Trunc}
use Rattle.mount_model.specs.Paths.{Name}
use Rattle.mount_sound.specs.Ledger.{Written}

-- A writer of a room: its buffer's capacity, the greatest truncate as it opened, whether it has the room open, and whether an actor has it. It issued these
-- writes, in order, of which the first so many have landed.
pub record PlainWriter : Type 0 where
  pub id : ℕ
  pub host : ℕ
  pub capacity : ℕ
  pub floor : ℕ
  pub is_open : Bool
  pub is_owned : Bool
  pub issued : List Written
  pub landed : ℕ

-- A room: its name, whether it is held, its truncates by rising stamp, and its writers by rising id.
pub record PlainRoom : Type 0 where
  pub name : Name
  pub is_held : Bool
  pub truncs : List Trunc
  pub writers : List PlainWriter

-- The file of a reader: of which room it is, and the writes and truncates that it had as it was opened or refreshed.
pub record PlainReader : Type 0 where
  pub room : ℕ
  pub writes : List Written
  pub truncs : List Trunc

-- an actor's writer is the one of this id in this room
pub record PlainOwn : Type 0 where
  pub room : ℕ
  pub id : ℕ

pub record PlainActor : Type 0 where
  pub writer : Option PlainOwn
  pub reader : Option PlainReader

-- The rooms and the actors, each in their order, the clock's times where it tells them, the mark of the mount, and the last serial that was drawn. The room
-- of the marks is among the rooms; no file has its name.
pub record Plain : Type 0 where
  pub rooms : List PlainRoom
  pub actors : List PlainActor
  pub times : Option (List ℕ)
  pub mark : ℕ
  pub serial : ℕ
