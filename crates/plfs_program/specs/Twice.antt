-- Two runs that begin alike, and print the same.
use Rattle.std.specs.Prelude.{◌≡◌, ℕ, ◌<◌, ◌-◌, ◌^◌, List, Some}
use Rattle.plfs_types.specs.Counts.{HasRisen}
use Rattle.edge_io.specs.Source.{Given}
use Rattle.step_laws.specs.Alike.{IsTold}
use Rattle.program_ends.specs.Ends.{Ends}
use Rattle.program_ends.specs.Output.{IsPrinted}

-- The store of both is the same and tells its tree, its count of faults has not come to its end, and the clock of both
-- tells these times.
pub record BeginAlike (e f : Ends) : Type 0 where
  pub stored : f.stored ≡ e.stored
  pub told : IsTold e.stored
  pub counting : e.stored.faults < 2 ^ 64 - 1
  pub times : List ℕ
  pub times_are : e.times ≡ Some times
  pub times_too : f.times ≡ Some times

-- no count of the source or of the sink has risen
pub record HadNoStreamTrouble (given after : Given) (e : Ends) : Type 0 where
  pub source : HasRisen given.faults after.faults → ⊥
  pub sink : HasRisen e.taking.faults e.taking_after.faults → ⊥
  pub stalls : HasRisen e.taking.stalls e.taking_after.stalls → ⊥

-- Both print this text whole, with the same status, and leave the same store. Where the sinks had taken the same before,
-- they have then.
pub record PrintAlike (e f : Ends) (status other : ℕ) : Type 0 where
  pub text : List ℕ
  pub printed : IsPrinted text e.taking e.taking_after
  pub printed_too : IsPrinted text f.taking f.taking_after
  pub same_bytes : e.taking.taken ≡ f.taking.taken → e.taking_after.taken ≡ f.taking_after.taken
  pub status_is : status ≡ other
  pub left_is : e.stored_after ≡ f.stored_after
