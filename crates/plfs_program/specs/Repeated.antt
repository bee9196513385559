-- Runs that print the same as other runs of the same words.
use Rattle.std.specs.Prelude.{◌≡◌, ◌≢◌, ℕ, List, Some}
use Rattle.std.specs.List.{AllByRecursion}
use Rattle.edge_io.specs.Source.{Given}
use Rattle.store_api.specs.Acts.{Stored}
use Rattle.step_laws.specs.Alike.{StillCounts}
use Rattle.program_ends.specs.Ends.{Ends}
use Rattle.plfs_program.specs.Commands.{IsBuiltCommand}
use Rattle.plfs_program.specs.Complete.{HadNoTrouble}
use Rattle.plfs_program.specs.Course.{Course}
use Rattle.plfs_program.specs.Failures.{failures_of}
use Rattle.plfs_program.specs.Twice.{BeginAlike, HadNoStreamTrouble, PrintAlike}

-- Each run of these words that begins alike, before the same input, prints the same, ends with the same status and leaves the same store. The sources of both
-- tell the input, nothing failed, and memory sufficed.
abbrev pub IsRepeatable : List (List ℕ) → Given → Given → Ends → ℕ → Type 0
IsRepeatable words given after e status =
    (input : List ℕ) (another later : Given) (f : Ends) (other : ℕ) → given.left ≡ Some input → another.left ≡ Some input → BeginAlike e f → HadNoTrouble given after e → HadNoTrouble another later f → status ≢ 3 → other ≢ 3
    → Course IsBuiltCommand words another later f other → PrintAlike e f status other

-- This became of a run. Each run of these words that begins alike, before the same input, prints the same, ends with the same status and leaves the same store.
-- Acts of the store may have faulted, if those of both runs left the same stores, in the same order. No count of these stores has come to its end. The sources
-- of both tell the input, and neither source nor sink failed. Memory sufficed, else it is not told what faulted acts left.
pub record IsRepeatableWithFaults (words : List (List ℕ)) (given after : Given) (e : Ends) (status : ℕ) : Type 0 where
  pub course : Course IsBuiltCommand words given after e status
  pub again : (input : List ℕ) (another later : Given) (f : Ends) (other : ℕ) (failures : List Stored) → given.left ≡ Some input → another.left ≡ Some input → BeginAlike e f → HadNoStreamTrouble given after e → HadNoStreamTrouble another later f
      → (repeated : Course IsBuiltCommand words another later f other) → failures_of course ≡ Some failures → failures_of repeated ≡ Some failures → AllByRecursion StillCounts failures → PrintAlike e f status other
