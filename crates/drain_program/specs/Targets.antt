-- Stores that drains of one container have been made to, and what a further drain leaves of them.
use Rattle.std.specs.Prelude.{◌≡◌, ℕ, List, ◌++◌, Option, Some}
use Rattle.store_api.specs.declared.tree.Room.{Room}
use Rattle.store_api.specs.declared.tree.Tree.{Tree}
use Rattle.store_api.specs.Acts.{Stored}
use Rattle.store_laws.specs.There.{IsFree}
use Rattle.mount_model.specs.History.{Event}
use Rattle.mount_model.specs.Mounting.{IsMounted}
use Rattle.mount_model.specs.Paths.{Name}
use Rattle.mount_sound.specs.Sound.{IsSoundTree}
use Rattle.mount_sound.specs.Owed.{IsLawful}
use Rattle.reader_laws.specs.Moments.{IsSoundAt, Moment, moment_after}
use Rattle.drain_sound.specs.Draining.{Happening, HoldsTarget, source_after, target_after}
use Rattle.drain_sound.specs.Steps.{IsNamedRoom}
use Rattle.drain_laws.specs.Drained.{HasDrained}
use Rattle.drain_laws.specs.Keeping.{IsLeftOf}
use Rattle.drain_laws.specs.Showing.{ShowsSource}

-- the store tells a sound tree, whose container of this name is the room of this number
pub record HasSource (number : ℕ) (name : Name) (store : Stored) : Type 0 where
  pub tree : Tree
  pub told : store.tree ≡ Some tree
  pub sound : IsSoundTree tree
  pub room : Room
  pub at : IsNamedRoom tree number name room

-- the store tells a sound tree that has no container of this name
pub record LacksContainer (name : Name) (store : Stored) : Type 0 where
  pub tree : Tree
  pub told : store.tree ≡ Some tree
  pub sound : IsSoundTree tree
  pub free : IsFree tree name

-- A target of drains from that room: no container of the name is there yet; or it holds a target of a mount that left the source as it is.
pub data HasTarget (number : ℕ) (name : Name) (source target : Stored) : Type 0 where
  first : (tree : Tree) → target.tree ≡ Some tree → IsSoundTree tree → IsFree tree name → HasTarget number name source target
  later : (moment : Moment) → IsSoundAt moment → moment.state.store.tree ≡ source.tree → HoldsTarget moment number name target → HasTarget number name source target

-- The source has the container, and the target is one of drains from it; or neither has a container of the name.
pub data IsDrainable (number : ℕ) (name : Name) (source target : Stored) : Type 0 where
  both : HasSource number name source → HasTarget number name source target → IsDrainable number name source target
  neither : LacksContainer name source → LacksContainer name target → IsDrainable number name source target

-- at each moment of all that happened the store holds a target, and so does what a loss of power leaves of it
abbrev pub HoldsThroughout : ℕ → Name → Moment → Stored → List Happening → Type 0
HoldsThroughout number name source store happened = (front rest : List Happening) → happened ≡ front ++ rest → HoldsTarget (source_after source front) number name (target_after store front)

-- A mount was made of the source as it was. What had landed in its container as it began is in the target's container now, and the truncates are that stood then.
-- So it is after a loss of power.
pub record HasCopiedAll (number : ℕ) (name : Name) (source target : Stored) : Type 0 where
  pub start : Moment
  pub end : Moment
  pub sound : IsSoundAt start
  pub times : Option (List ℕ)
  pub mounted : IsMounted 0 times source start.state
  pub tree : Tree
  pub told : target.tree ≡ Some tree
  pub drained : (left : Tree) → IsLeftOf target left → HasDrained start end number name left

-- A mount was made of the source as it was, and calls there led to the first of these moments, and on to the second.
pub record AreMomentsOf (source : Stored) (first last : Moment) : Type 0 where
  pub start : Moment
  pub sound : IsSoundAt start
  pub times : Option (List ℕ)
  pub mounted : IsMounted 0 times source start.state
  pub before : List Event
  pub between : List Event
  pub lawful : IsLawful start.state (before ++ between)
  pub begins : first ≡ moment_after start before
  pub ends : last ≡ moment_after first between

-- Readers of a mount over this tree see the plain file of a cut of the source that is admissible between these moments of it, and the
-- truncates of the second.
pub record ShowsAll (number : ℕ) (name : Name) (source : Stored) (tree : Tree) : Type 0 where
  pub first : Moment
  pub last : Moment
  pub moments : AreMomentsOf source first last
  pub shows : ShowsSource first last number name tree
