-- Sources and sinks in memory, of which the calls of some numbers fail.
use Rattle.std.specs.Prelude.{ℕ, List, ◌++◌, length, take, drop, ◌==◌, ◌&&◌, nat_lt, if◌then◌else◌, Bool, Some}
use Rattle.std.specs.List.{list_any}
use Rattle.plfs_types.specs.Counts.{next_count}
use Rattle.edge_io.specs.Sink.{Taking}
use Rattle.edge_io.specs.Source.{Given}

-- a source in memory: the bytes left, the most bytes that one call moves, the numbers of the calls that fail,
-- the number of the next call, and how often it has failed
pub record Supply : Type 0 where
  pub left : List ℕ
  pub piece : ℕ
  pub fails : List ℕ
  pub calls : ℕ
  pub faults : ℕ

-- a sink in memory: the bytes taken, how often it took nothing of a piece that isn't empty, and the rest as in a source
pub record Intake : Type 0 where
  pub taken : List ℕ
  pub piece : ℕ
  pub fails : List ℕ
  pub calls : ℕ
  pub faults : ℕ
  pub stalls : ℕ

-- what contracts see of a source in memory
abbrev pub given_of : Supply → Given
given_of s = record { left = Some s.left; faults = s.faults }

-- what contracts see of a sink in memory
abbrev pub taking_of : Intake → Taking
taking_of s = record { taken = Some s.taken; faults = s.faults; stalls = s.stalls }

-- the call of this number is one of those that fail
abbrev pub is_failing : List ℕ → ℕ → Bool
is_failing fails call = list_any (λ fail. fail == call) fails

-- the source after a call that handed over n bytes
abbrev pub supply_after : ℕ → Supply → Supply
supply_after n s = record s { left = drop n s.left; calls = next_count s.calls }

-- the source after a call that failed
abbrev pub supply_failed : Supply → Supply
supply_failed s = record s { calls = next_count s.calls; faults = next_count s.faults }

-- a write that took n bytes of this piece has stalled where it took none and there are some
abbrev pub stalls_after : ℕ → List ℕ → ℕ → ℕ
stalls_after n piece stalls = if n == 0 && nat_lt 0 (length piece) then next_count stalls else stalls

-- the sink after a call that took the first n bytes of this piece
abbrev pub intake_after : ℕ → List ℕ → Intake → Intake
intake_after n piece s = record s { taken = s.taken ++ take n piece; calls = next_count s.calls; stalls = stalls_after n piece s.stalls }

-- the sink after a call that failed
abbrev pub intake_failed : Intake → Intake
intake_failed s = record s { calls = next_count s.calls; faults = next_count s.faults }
