-- What a migration leaves that is at its end: packed indices that are right for their room.
use Rattle.std.specs.Prelude.{◌≡◌, ◌≢◌, ◌+◌, ℕ, List, [], ◌∷◌, length}
use Rattle.std.specs.List.{AllByRecursion}
use Rattle.container_layout.specs.declared.items.Item.TheVariants.{Packed}
use Rattle.store_api.specs.declared.tree.Room.{Room}
use Rattle.mount_model.specs.State.{State}
use Rattle.mount_sound.specs.Flats.{IsRightPack}
use Rattle.mount_sound.specs.Items.{HasItem}
use Rattle.mount_sound.specs.Owed.{StandsInRoom}
use Rattle.mount_sound.specs.There.{landed_entries}
use Rattle.migrate_core.specs.declared.migrated.Migrated.{Migrated}
use Rattle.migrate_core.specs.Longest.{run_count}
use Rattle.migrate_laws.specs.Closed.{WriterOf}

-- a writer, and how many entries and runs its packed index has
pub record PackOf : Type 0 where
  pub host : ℕ
  pub writer : ℕ
  pub entries : ℕ
  pub runs : ℕ

abbrev pub writer_of : PackOf → WriterOf
writer_of p = record { host = p.host; writer = p.writer }

-- The room has the packed index, which is right for it: that of all entries of the writer that have landed, so many in so
-- many runs.
pub record HasPack (p : PackOf) (room : Room) : Type 0 where
  pub bytes : List ℕ
  pub stands : HasItem room (Packed p.host p.writer) bytes
  pub right : IsRightPack room p.host p.writer bytes
  pub all : length (landed_entries room p.host p.writer) ≡ p.entries
  pub longest : run_count (landed_entries room p.host p.writer) ≡ p.runs

abbrev pub HavePacks : ℕ → List PackOf → State → Type 0
HavePacks number packs state = AllByRecursion (λ (p : PackOf). StandsInRoom state number (HasPack p)) packs

abbrev pub entries_of : List PackOf → ℕ
entries_of [] = 0
entries_of (p ∷ packs) = p.entries + entries_of packs

abbrev pub runs_of : List PackOf → ℕ
runs_of [] = 0
runs_of (p ∷ packs) = p.runs + runs_of packs

-- it counts these writers, with these entries and runs in all
pub record Counts (out : Migrated) (packs : List PackOf) : Type 0 where
  pub writers : out.writers ≡ length packs
  pub entries : out.entries ≡ entries_of packs
  pub runs : out.runs ≡ runs_of packs

-- no two of them are of one writer
abbrev pub AreApart : List PackOf → Type 0
AreApart [] = Unit {0}
AreApart (p ∷ packs) = AllByRecursion (λ (q : PackOf). q.writer ≢ p.writer) packs × AreApart packs
