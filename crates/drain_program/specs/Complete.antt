-- Drains in which nothing broke, and those that are refused.
use Rattle.std.specs.Prelude.{◌≡◌, ℕ, List, Option, Some}
use Rattle.plfs_types.specs.Counts.{HasRisen}
use Rattle.store_api.specs.declared.tree.Tree.{Tree}
use Rattle.store_api.specs.Acts.{Stored}
use Rattle.mount_model.specs.Mounting.{IsMounted}
use Rattle.mount_model.specs.Paths.{Name}
use Rattle.reader_laws.specs.Moments.{IsSoundAt, Moment}
use Rattle.program_ends.specs.Ends.{Ends}
use Rattle.program_ends.specs.Mounting.{AreSpent, listed_marks}
use Rattle.drain_sound.specs.Draining.{Happening}
use Rattle.drain_laws.specs.Ending.{IsTaken}
use Rattle.drain_program.specs.Targets.{LacksContainer}

-- no count of the sink, of the source or of the target has risen
pub record HadNoTrouble (e : Ends) (target target_end : Stored) : Type 0 where
  pub sink : HasRisen e.taking.faults e.taking_after.faults → ⊥
  pub stalls : HasRisen e.taking.stalls e.taking_after.stalls → ⊥
  pub store : (left : Stored) → e.stored_after ≡ Some left → HasRisen e.stored.faults left.faults → ⊥
  pub target_store : HasRisen target.faults target_end.faults → ⊥

-- A mount was made of the source as it was, and a drain was taken there by a writer that was settled at the target.
pub record WasTaken (number : ℕ) (name : Name) (source target : Stored) : Type 0 where
  pub start : Moment
  pub sound : IsSoundAt start
  pub times : Option (List ℕ)
  pub mounted : IsMounted 0 times source start.state
  pub happened : List Happening
  pub writer : ℕ
  pub there : ℕ
  pub here : ℕ
  pub taken : IsTaken 0 number name start target happened writer there here

-- why a drain is refused: no mount has a number left, the source has no container of the name, or a writer that was settled at the target went on
pub data WhyRefused (number : ℕ) (name : Name) (source target : Stored) : Type 0 where
  spent : (tree : Tree) → source.tree ≡ Some tree → AreSpent (listed_marks tree) → WhyRefused number name source target
  no_file : LacksContainer name source → WhyRefused number name source target
  taken_by : WasTaken number name source target → WhyRefused number name source target
