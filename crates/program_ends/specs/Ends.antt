-- The two ends of a run.
use Rattle.std.specs.Prelude.{ℕ, ◌≡◌, ◌⊎◌, List, Option, Some}
use Rattle.edge_io.specs.Sink.{Taking}
use Rattle.store_api.specs.Acts.{Stored}
use Rattle.program_ends.specs.Output.{IsPrinted, IsCutOff}

-- the clock's times to come, and the sink and the store before and after
pub record Ends : Type 0 where
  pub times : Option (List ℕ)
  pub taking : Taking
  pub taking_after : Taking
  pub stored : Stored
  pub stored_after : Option Stored

abbrev pub ends_of : Option (List ℕ) → Taking → Taking → Stored → Option Stored → Ends
ends_of times taking taking_after stored stored_after = record { times = times; taking = taking; taking_after = taking_after; stored = stored; stored_after = stored_after }

-- no act was made
abbrev pub IsUntouched : Ends → Type 0
IsUntouched e = e.stored_after ≡ Some e.stored

-- the line was printed, or a front of it where the sink broke
abbrev pub IsSaid : List ℕ → Ends → Type 0
IsSaid line e = IsPrinted line e.taking e.taking_after ⊎ IsCutOff line e.taking e.taking_after
