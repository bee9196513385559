-- What a drain does over a target that came from drains of the source's container alone.
use Rattle.std.specs.Prelude.{◌≡◌, ℕ, List, ◌++◌, Ok, Err}
use Rattle.store_api.specs.declared.tree.Tree.{Tree}
use Rattle.store_api.specs.Acts.{Stored}
use Rattle.mount_model.specs.Paths.{Name}
use Rattle.reader_laws.specs.Moments.{Moment}
use Rattle.drain_copy.specs.declared.outcome.Drained.{Drained}
use Rattle.drain_copy.specs.declared.outcome.DrainStuck.{DrainStuck}
use Rattle.drain_copy.specs.Asking.{ends}
use Rattle.drain_copy.specs.Planning.{nothing_drained}
use Rattle.drain_copy.specs.Telling.{DrainsOn}
use Rattle.drain_sound.specs.Draining.{Happening, source_after, target_after}
use Rattle.drain_laws.specs.Ending.{HasAllSettled, HasOpenhosts, WhyEnded}
use Rattle.drain_laws.specs.Gathered.{HasGathered, began_at, events_in, listed_at}
use Rattle.drain_laws.specs.Keeping.{IsKeptBySource, IsLeftOf}
use Rattle.drain_laws.specs.Reading.{AllReadBehind, HasNoBareLog}
use Rattle.drain_laws.specs.Resting.{CopiesNothing, HasAll}
use Rattle.drain_laws.specs.Showing.{ShowsSource}

-- at each moment no loss of power at the source takes what the target has
abbrev pub IsKeptThroughout : ℕ → Name → Moment → Stored → List Happening → Type 0
IsKeptThroughout number name source store happened = (front rest : List Happening) → happened ≡ front ++ rest → IsKeptBySource (source_after source front) number name (target_after store front)

-- Happenings of a drain that begins at this moment of a mount, over a target of drains of this room of it. That program is left.
pub record IsDrainFrom (number : ℕ) (name : Name) (source : Moment) (target : Stored) (happened : List Happening) (left : DrainsOn) (target_end : Stored) : Type 0 where
  -- where no log is bare, each Read of a log begins exactly where the target's ends, and none is bare then
  pub behind : HasNoBareLog name target → AllReadBehind 0 name target happened × HasNoBareLog name target_end
  pub keeps : IsKeptBySource source number name target → IsKeptThroughout number name source target happened
  -- where it ended well, readers of the target see the source, also after a loss of power there
  pub shows : (drained : Drained) → left ≡ ends (Ok drained) → (tree : Tree) → IsLeftOf target_end tree → (g : HasGathered 0 number (events_in happened)) × ShowsSource (began_at source g) (listed_at source g) number name tree
  -- where the target has all, no log is read, nothing is synced at the source and no byte is written, and nothing is told as drained
  pub rests : HasAll (source_after source happened) number name target → CopiesNothing 0 happened × ((drained : Drained) → left ≡ ends (Ok drained) → drained ≡ nothing_drained)
  -- why it ended, where it isn't through; and where it is, all of each settled writer was there
  pub reason : (why : DrainStuck) → left ≡ ends (Err why) → WhyEnded 0 number name source target happened why
  pub settled : (drained : Drained) → left ≡ ends (Ok drained) → HasAllSettled source number name target
  pub opens : HasOpenhosts name target → HasOpenhosts name target_end

-- The same where neither has a container of the name: why it ended, where it isn't through.
pub record IsDrainOfNone (name : Name) (source : Moment) (target : Stored) (happened : List Happening) (left : DrainsOn) (target_end : Stored) : Type 0 where
  pub reason : (why : DrainStuck) → left ≡ ends (Err why) → WhyEnded 0 0 name source target happened why
  pub opens : HasOpenhosts name target_end
