-- Writes that stay, and moments of later mounts.
use Rattle.std.specs.Prelude.{◌≡◌, ◌≤◌, ◌⊎◌, ℕ, zero, suc, List, [], length, Option, Some, slice_get}
use Rattle.std.specs.List.{All, Any}
use Rattle.container_layout.specs.declared.items.Item.TheVariants.{Index}
use Rattle.store_api.specs.Acts.{Stored}
use Rattle.store_api.specs.declared.tree.Room.{Room}
use Rattle.store_api.specs.declared.tree.Tree.{Tree}
use Rattle.store_api.specs.Loss.{Loses}
use Rattle.mount_model.specs.History.{Event}
use Rattle.mount_model.specs.Mounting.{IsMounted}
use Rattle.mount_sound.specs.Growing.{IsMore}
use Rattle.mount_sound.specs.Items.{HasItem}
use Rattle.mount_sound.specs.Keeping.{kept_in}
use Rattle.mount_sound.specs.Ledger.{Written}
use Rattle.mount_sound.specs.Owed.{IsLawful}
use Rattle.mount_sound.specs.Sound.{IsSoundTree}
use Rattle.reader_laws.specs.Gathering.{Gathered}
use Rattle.plfs_types.specs.Places.{IsAmong}
use Rattle.reader_laws.specs.Moments.{Dropping, Moment, issued_by, moment_after}
use Rattle.reader_laws.specs.View.{writes_in}

-- The first writes that the writer issued are these, and as many of its entries are kept with their bytes.
pub record KeepsSome (m : Moment) (d : Dropping) (writes : List Written) : Type 0 where
  pub first : IsMore writes (issued_by m d)
  pub tree : Tree
  pub told : m.state.store.tree ≡ Some tree
  pub room : Room
  pub there : slice_get tree.rooms d.room ≡ Some room
  pub bytes : List ℕ
  pub stands : HasItem room (Index d.host d.writer) bytes
  pub kept : length writes ≤ kept_in room d.host d.writer

-- no loss of power takes one of these writes, its first ones
abbrev pub KeepsWrites : Moment → Dropping → List Written → Type 0
KeepsWrites m d writes = (writes ≡ []) ⊎ KeepsSome m d writes

-- The cut has each of these writes, the first ones of this writer.
pub record HoldsWrites (end : Moment) (cut : List Gathered) (d : Dropping) (writes : List Written) : Type 0 where
  pub each : All (λ (w : Written). IsAmong w (writes_in end cut)) writes
  pub counted : 1 ≤ length writes → Any (λ (g : Gathered). (g.dropping ≡ d) × (length writes ≤ g.count)) cut

-- the tree that the next mount finds: as it was left, or what a loss of power left of it
abbrev pub IsLeft : Tree → Tree → Type 0
IsLeft tree left = (left ≡ tree) ⊎ Loses tree left

-- Behind these calls the mount was over, and the next one began over the tree that was left.
pub record Remounts (m next : Moment) : Type 0 where
  pub events : List Event
  pub lawful : IsLawful m.state events
  pub tree : Tree
  pub told : (moment_after m events).state.store.tree ≡ Some tree
  pub left : Tree
  pub is_left : IsLeft tree left
  pub serial : ℕ
  pub times : Option (List ℕ)
  pub opened : Stored
  pub opened_is : opened.tree ≡ Some left
  pub mounted : IsMounted serial times opened next.state
  pub sound : IsSoundTree left
  pub issued : (number writer : ℕ) → next.issued number writer ≡ sound.issued number writer

-- a moment so many mounts later, or in the same mount where they are none
abbrev pub IsLater : ℕ → Moment → Moment → Type 0
IsLater zero m now = (events : List Event) × IsLawful m.state events × (now ≡ moment_after m events)
IsLater (suc mounts) m now = (next : Moment) × Remounts m next × IsLater mounts next now
