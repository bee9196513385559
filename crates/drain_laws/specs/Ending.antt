-- Why a drain ended before it was through.
use Rattle.std.specs.Prelude.{◌≡◌, ◌≤◌, ◌<◌, ℕ, List, [], ◌∷◌, ◌++◌, true, false, Some}
use Rattle.store_api.specs.declared.tree.Room.{Room}
use Rattle.store_api.specs.declared.tree.Tree.{Tree}
use Rattle.store_api.specs.Acts.{Stored}
use Rattle.store_api.specs.Room.{has_folder}
use Rattle.store_laws.specs.There.{IsFree}
use Rattle.turn_object.specs.Callers.{made_by}
use Rattle.mount_model.specs.declared.reply.Refusal.TheVariants.{NoRoom}
use Rattle.mount_model.specs.History.{Event}
use Rattle.mount_model.specs.Paths.{Name}
use Rattle.container_layout.specs.Paths.{openhosts}
use Rattle.mount_sound.specs.Items.{HasMeta}
use Rattle.reader_laws.specs.Moments.{Moment, Stood, landed, moment_after}
use Rattle.mount_model.specs.declared.stuck.Stuck.TheVariants as stuck
use Rattle.drain_copy.specs.declared.outcome.DrainStuck.{DrainStuck}
use Rattle.drain_copy.specs.declared.outcome.DrainStuck.TheVariants.{Source, Taken, TargetDamaged, TargetFault}
use Rattle.drain_sound.specs.Draining.{Happening, target_after}
use Rattle.drain_sound.specs.Fronts.{dropping_in}
use Rattle.drain_sound.specs.Steps.{IsNamedRoom}
use Rattle.drain_sound.specs.Views.{HasCopied}
use Rattle.drain_laws.specs.Gathered.{HasGathered, began_at, events_in, listed_at}

-- As the caller made its first call, no container at the source had the name.
pub record HadNoContainer (caller : ℕ) (name : Name) (source : Moment) (happened : List Happening) : Type 0 where
  pub before : List Event
  pub first : Event
  pub later : List Event
  pub split : events_in happened ≡ before ++ first ∷ later
  pub none_before : made_by caller before ≡ []
  pub by_caller : first.caller ≡ caller
  pub tree : Tree
  pub told : (moment_after source before).state.store.tree ≡ Some tree
  pub free : IsFree tree name

-- the container lacks the folder of those that have it open
pub record LacksOpenhosts (name : Name) (tree : Tree) : Type 0 where
  pub n : ℕ
  pub room : Room
  pub at : IsNamedRoom tree n name room
  pub none : has_folder room openhosts ≡ false

-- The target's container has a metadata dropping of the writer, and just so many of its entries whole, with their bytes. At the source more had landed, and were
-- gathered.
pub record IsTaken (caller number : ℕ) (name : Name) (source : Moment) (store : Stored) (happened : List Happening) (writer there here : ℕ) : Type 0 where
  pub host : ℕ
  pub tree : Tree
  pub told : store.tree ≡ Some tree
  pub n : ℕ
  pub room : Room
  pub at : IsNamedRoom tree n name room
  pub settled : HasMeta room host writer
  pub has : 1 ≤ there → HasCopied source number room host writer there
  pub only : (count : ℕ) → HasCopied source number room host writer count → count ≤ there
  pub more : there < here
  pub gathered : HasGathered caller number (events_in happened)
  pub least : landed (began_at source gathered) (dropping_in number host writer) ≤ here
  pub most : here ≤ landed (listed_at source gathered) (dropping_in number host writer)

-- The target has all that had landed at the source of each writer that was settled there.
abbrev pub HasAllSettled : Moment → ℕ → Name → Stored → Type 0
HasAllSettled source number name store = (tree : Tree) (n : ℕ) (room : Room) (host writer : ℕ) → store.tree ≡ Some tree → IsNamedRoom tree n name room → HasMeta room host writer
    → Stood source (dropping_in number host writer) → 1 ≤ landed source (dropping_in number host writer) → HasCopied source number room host writer (landed source (dropping_in number host writer))

-- the container at the target, if there is one, has the folder of those that have it open
abbrev pub HasOpenhosts : Name → Stored → Type 0
HasOpenhosts name store = (tree : Tree) (n : ℕ) (room : Room) → store.tree ≡ Some tree → IsNamedRoom tree n name room → has_folder room openhosts ≡ true

-- Its source's store failed, or its target's; no container had the name; the target's container lacks a folder, and nothing more is told of it than that; or a
-- writer that was settled there had more entries at the source.
pub data WhyEnded (caller number : ℕ) (name : Name) (source : Moment) (store : Stored) (happened : List Happening) : DrainStuck → Type 0 where
  source_failed : WhyEnded caller number name source store happened (Source stuck.Fault)
  target_failed : WhyEnded caller number name source store happened TargetFault
  no_container : HadNoContainer caller name source happened → WhyEnded caller number name source store happened (Source (stuck.Refused NoRoom))
  no_openhosts : (tree : Tree) → (target_after store happened).tree ≡ Some tree → LacksOpenhosts name tree → WhyEnded caller number name source store happened (TargetDamaged openhosts [] 0)
  was_taken : (writer there here : ℕ) → IsTaken caller number name source store happened writer there here → WhyEnded caller number name source store happened (Taken writer there here)
