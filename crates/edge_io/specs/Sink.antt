-- What a write tells of a sink, and what it leaves.
use Rattle.std.specs.Prelude.{◌≡◌, ◌≤◌, ℕ, List, ◌++◌, length, take, Option, Some, None, Result, Ok, Err}
use Rattle.plfs_types.specs.Counts.{HasRisen}
use Rattle.edge_io.specs.declared.failed.Failed.{Failed}

-- what contracts see of a sink: the bytes it has taken, where it tells them; how often it has failed; and how
-- often it took nothing of a piece that isn't empty
pub record Taking : Type 0 where
  pub taken : Option (List ℕ)
  pub faults : ℕ
  pub stalls : ℕ

-- the same of a sink that tells no bytes
abbrev pub taking_over : ℕ → ℕ → Taking
taking_over faults stalls = record { taken = None; faults = faults; stalls = stalls }

-- told bytes grow by this piece; bytes that aren't told stay untold
abbrev pub TakesOn : List ℕ → Option (List ℕ) → Option (List ℕ) → Type 0
TakesOn piece None new = new ≡ None
TakesOn piece (Some old) new = new ≡ Some (old ++ piece)

-- the first n bytes of the piece were taken
pub record HasWritten (n : ℕ) (piece : List ℕ) (old new : Taking) : Type 0 where
  pub within : n ≤ length piece
  pub bytes : TakesOn (take n piece) old.taken new.taken
  pub faults : new.faults ≡ old.faults
  pub stalls : old.stalls ≤ new.stalls
  pub unstalled : 1 ≤ n → new.stalls ≡ old.stalls
  pub stalled : n ≡ 0 → 1 ≤ length piece → HasRisen old.stalls new.stalls

-- the write has failed, and the bytes taken are as they were
pub record HasNotWritten (old new : Taking) : Type 0 where
  pub taken : new.taken ≡ old.taken
  pub faults : old.faults ≤ new.faults
  pub stalls : old.stalls ≤ new.stalls
  pub cause : HasRisen old.faults new.faults

-- what a write may tell, and leave
abbrev pub Takes : List ℕ → Taking → Taking → Result ℕ Failed → Type 0
Takes piece old new (Ok n) = HasWritten n piece old new
Takes piece old new (Err _) = HasNotWritten old new
