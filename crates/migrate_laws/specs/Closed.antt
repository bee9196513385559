-- The writers that closed a file, in its container, and what became of each.
use Rattle.std.specs.Prelude.{◌≢◌, ◌≤◌, ◌<◌, ℕ, List, [], ◌∷◌}
use Rattle.std.specs.List.{AllByRecursion, Contains}
use Rattle.container_layout.specs.declared.items.Item.TheVariants.{Meta, Packed}
use Rattle.plfs_types.specs.declared.limits.TheConstants.{MAX_PACKED}
use Rattle.store_api.specs.declared.tree.Room.{Room}
use Rattle.mount_sound.specs.Items.{HasItem}
use Rattle.mount_sound.specs.There.{landed_in}

-- a writer of a container
pub record WriterOf : Type 0 where
  pub host : ℕ
  pub writer : ℕ

-- It has closed the file and had written: its metadata dropping stands, with a stamp above 0.
pub record HasClosed (w : WriterOf) (room : Room) : Type 0 where
  pub last : ℕ
  pub bytes : ℕ
  pub stamp : ℕ
  pub content : List ℕ
  pub stands : HasItem room (Meta last bytes stamp w.host w.writer) content
  pub wrote : 1 ≤ stamp

-- it has a packed index
abbrev pub IsPacked : WriterOf → Room → Type 0
IsPacked w room = (bytes : List ℕ) × HasItem room (Packed w.host w.writer) bytes

-- it has more entries than a packed index holds
abbrev pub IsTooLong : WriterOf → Room → Type 0
IsTooLong w room = MAX_PACKED < landed_in room w.host w.writer

-- no two of them are one
abbrev pub AreOnce : List WriterOf → Type 0
AreOnce [] = Unit {0}
AreOnce (w ∷ writers) = AllByRecursion (λ (v : WriterOf). v.writer ≢ w.writer) writers × AreOnce writers

-- these are exactly the writers of which this holds, each once
pub record AreExactly (such : WriterOf → Type 0) (writers : List WriterOf) : Type 0 where
  pub all : AllByRecursion such writers
  pub none_missed : (w : WriterOf) → such w → Contains writers w
  pub once : AreOnce writers
