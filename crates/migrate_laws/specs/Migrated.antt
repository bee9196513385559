-- What a migration shows that is at its end: which container it packed, that it passed over no writer of it, and what it
-- counts.
use Rattle.std.specs.Prelude.{◌≡◌, ◌⊎◌, ℕ, List, length, map}
use Rattle.std.specs.List.{AllByRecursion, Contains}
use Rattle.mount_model.specs.declared.call.Call.TheVariants.{Find, Look}
use Rattle.mount_model.specs.declared.call.Look.TheVariants.{List as ListFolder}
use Rattle.mount_model.specs.History.{Event, state_after}
use Rattle.mount_model.specs.Paths.{Name, metadata}
use Rattle.mount_model.specs.State.{State}
use Rattle.mount_sound.specs.Owed.{StandsInRoom}
use Rattle.migrate_core.specs.declared.migrated.Migrated.{Migrated}
use Rattle.migrate_laws.specs.Closed.{AreExactly, HasClosed, IsPacked, IsTooLong, WriterOf}
use Rattle.migrate_laws.specs.Moments.{Calls, HasLooked, IsNamed}
use Rattle.migrate_laws.specs.Packed.{AreApart, Counts, HavePacks, PackOf, writer_of}

-- a writer that is left: it had closed in the one state, and is too long in the other
abbrev pub IsLeftOut : ℕ → State → State → WriterOf → Type 0
IsLeftOut number listed end w = StandsInRoom listed number (HasClosed w) × StandsInRoom end number (IsTooLong w)

-- In the room of this number, the packed indices that it counts stand at the end, each right for the room and of another
-- writer that had closed when it listed the metadata. Of all that had, each is packed at the end, or too long for that:
-- these it counts as left. A packed one that it doesn't count was packed before it had made anything.
pub record HasPackedIn (caller number : ℕ) (start : State) (events : List Event) (out : Migrated) : Type 0 where
  pub packs : List PackOf
  pub have : HavePacks number packs (state_after start events)
  pub apart : AreApart packs
  pub counts : Counts out packs
  pub listed : State
  pub lists : Calls caller (Look number (ListFolder metadata)) start events listed
  pub closed : AllByRecursion (λ (p : PackOf). StandsInRoom listed number (HasClosed (writer_of p))) packs
  pub each : (w : WriterOf) → StandsInRoom listed number (HasClosed w) → StandsInRoom (state_after start events) number (λ room. IsPacked w room ⊎ IsTooLong w room)
  pub scanned : State
  pub looked : HasLooked caller start events scanned
  pub others : (w : WriterOf) → StandsInRoom listed number (HasClosed w) → StandsInRoom (state_after start events) number (IsPacked w) → Contains (map writer_of packs) w ⊎ StandsInRoom scanned number (IsPacked w)
  pub left : List WriterOf
  pub exactly : AreExactly (IsLeftOut number listed (state_after start events)) left
  pub left_counted : out.left ≡ length left

-- It packed in the room that had the name when it was found. None that it counts was packed then.
pub record HasMigrated (caller : ℕ) (name : Name) (start : State) (events : List Event) (out : Migrated) : Type 0 where
  pub number : ℕ
  pub found : State
  pub finds : Calls caller (Find name) start events found
  pub named : IsNamed name number found
  pub packed : HasPackedIn caller number start events out
  pub new : AllByRecursion (λ (p : PackOf). StandsInRoom found number (IsPacked (writer_of p)) → ⊥) packed.packs
