-- What a container shows, where only one writer's writes show.
use Rattle.std.specs.Prelude.{◌≡◌, ◌⊎◌, ◌<◌, ◌≤◌, ℕ, List, [], ◌++◌}
use Rattle.std.specs.List.{AllByRecursion}
use Rattle.plfs_types.specs.declared.entries.Entry.{Entry}
use Rattle.mount_sound.specs.Ledger.{Written}
use Rattle.reader_laws.specs.Moments.{Dropping, HadTrunc, IsNamed, Moment, issued_by, landed_by}

-- No other writer has landed a write in the writer's container, and no truncate stands there.
pub record HasNothingElse (m : Moment) (d : Dropping) : Type 0 where
  pub none_landed : (other : Dropping) → IsNamed other → other.room ≡ d.room → (other.writer ≡ d.writer → ⊥) → landed_by m other ≡ []
  pub no_truncates : (stamp size : ℕ) → HadTrunc m d.room stamp size → ⊥

-- A truncate to nothing stands there. It is newer than all that other writers have landed, and no older than each truncate, and older than each of these writes.
pub record IsAllHidden (m : Moment) (d : Dropping) (writes : List Written) : Type 0 where
  pub stamp : ℕ
  pub stands : HadTrunc m d.room stamp 0
  pub older : (other : Dropping) → IsNamed other → other.room ≡ d.room → (other.writer ≡ d.writer → ⊥) → AllByRecursion (λ (e : Entry). e.stamp < stamp) (landed_by m other)
  pub newest : (earlier size : ℕ) → HadTrunc m d.room earlier size → earlier ≤ stamp
  pub newer : AllByRecursion (λ (w : Written). stamp < w.entry.stamp) writes

-- These are all writes of the writer, and no other write shows in its container, nor a truncate.
pub record ShowsOnly (m : Moment) (d : Dropping) (writes : List Written) : Type 0 where
  pub issued : issued_by m d ≡ writes
  pub others : HasNothingElse m d ⊎ IsAllHidden m d writes

-- From the one moment to the other nothing has landed in the container, and its truncates are the same. A loss of power may have taken what isn't kept.
pub record IsStill (m to : Moment) (room : ℕ) : Type 0 where
  pub no_more_landed : (d : Dropping) → IsNamed d → d.room ≡ room → (lost : List Entry) × (landed_by m d ≡ landed_by to d ++ lost)
  pub no_more_truncates : (stamp size : ℕ) → HadTrunc to room stamp size → HadTrunc m room stamp size
  pub no_fewer_truncates : (stamp size : ℕ) → HadTrunc m room stamp size → HadTrunc to room stamp size
