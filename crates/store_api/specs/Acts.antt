-- What an act tells of a store, and what it leaves.
use Rattle.std.specs.Prelude.{◌≡◌, ℕ, ◌≤◌, Option, Some, None, Result, Ok, Err}
use Rattle.plfs_types.specs.Counts.{HasRisen, next_count}
use Rattle.store_api.specs.declared.tree.Tree.{Tree}
use Rattle.store_api.specs.declared.step.Answer.{Answer}
use Rattle.store_api.specs.declared.store.Trouble.{Trouble}
use Rattle.store_api.specs.declared.store.Trouble.TheVariants.{Fault, NoMemory}
use Rattle.store_api.specs.Step.{Step}
use Rattle.store_api.specs.Effect.{effect}
use Rattle.store_api.specs.Leaves.{MayLeave}

-- what contracts see of a store: what it holds, where it tells; how many acts were answered
-- otherwise than by want of memory; and how often it has failed
pub record Stored : Type 0 where
  pub tree : Option Tree
  pub acts : ℕ
  pub faults : ℕ

-- a told tree goes on by this relation, and one that isn't told stays untold
abbrev pub Goes : (Tree → Tree → Type 0) → Option Tree → Option Tree → Type 0
Goes moves None new = new ≡ None
Goes moves (Some old) new = (after : Tree) × (new ≡ Some after) × moves old after

-- the step was made whole, and answered
pub record IsMade (step : Step) (answer : Answer) (old new : Stored) : Type 0 where
  pub tree : Goes (λ before after. effect before step ≡ record { tree = after; answer = answer }) old.tree new.tree
  pub acts : new.acts ≡ next_count old.acts
  pub faults : new.faults ≡ old.faults

-- the store has failed, and the step was made, or not, or a write in part
pub record HasFaulted (step : Step) (old new : Stored) : Type 0 where
  pub tree : Goes (λ before after. MayLeave before step after) old.tree new.tree
  pub acts : new.acts ≡ next_count old.acts
  pub faults : old.faults ≤ new.faults
  pub cause : HasRisen old.faults new.faults

-- what an act may tell, and leave: at want of memory, nothing was done
abbrev pub Acts : Step → Stored → Stored → Result Answer Trouble → Type 0
Acts step old new (Ok answer) = IsMade step answer old new
Acts step old new (Err Fault) = HasFaulted step old new
Acts step old new (Err NoMemory) = new ≡ old
