-- Stores and clocks that tell what they have, and stores that faulted alike.
use Rattle.std.specs.Prelude.{◌≡◌, ℕ, ◌<◌, ◌-◌, ◌^◌, List, Some}
use Rattle.store_api.specs.declared.tree.Tree.{Tree}
use Rattle.store_api.specs.Acts.{Stored}
use Rattle.mount_model.specs.State.{State}

-- the store tells its tree
pub record IsTold (stored : Stored) : Type 0 where
  pub tree : Tree
  pub tree_is : stored.tree ≡ Some tree

-- so does the store of this state, and its clock tells its times
pub record TellsAll (state : State) : Type 0 where
  pub store : IsTold state.store
  pub times : List ℕ
  pub times_are : state.times ≡ Some times

-- no count of the store has come to its end, where it stays
pub record StillCounts (stored : Stored) : Type 0 where
  pub acts : stored.acts < 2 ^ 64 - 1
  pub faults : stored.faults < 2 ^ 64 - 1

-- From this store two calls faulted alike: neither faulted, or they left the same store, or one of them left it as it
-- was, while its acts are still counted.
pub data FaultAlike (old new other : Stored) : Type 0 where
  neither : new.faults ≡ old.faults → other.faults ≡ old.faults → FaultAlike old new other
  same : new ≡ other → FaultAlike old new other
  first_idle : old.acts < 2 ^ 64 - 1 → new ≡ old → FaultAlike old new other
  second_idle : old.acts < 2 ^ 64 - 1 → other ≡ old → FaultAlike old new other
