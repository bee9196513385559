-- What a read tells of a source, and what it leaves.
use Rattle.std.specs.Prelude.{◌≡◌, ◌↔◌, ◌≤◌, ℕ, List, [], ◌++◌, length, take, Option, Some, None, Result, Ok, Err}
use Rattle.plfs_types.specs.Counts.{HasRisen}
use Rattle.edge_io.specs.declared.failed.Failed.{Failed}

-- what contracts see of a source: the bytes it has left, where it tells them; and how often it has failed
pub record Given : Type 0 where
  pub left : Option (List ℕ)
  pub faults : ℕ

-- told bytes begin with this piece, and lose it; bytes that aren't told stay untold
abbrev pub HandsOver : List ℕ → Option (List ℕ) → Option (List ℕ) → Type 0
HandsOver piece None new = new ≡ None
HandsOver piece (Some old) new = (rest : List ℕ) × (new ≡ Some rest) × (old ≡ piece ++ rest)

-- where the bytes are told, 0 of them come exactly where none is left
abbrev pub EndsAtLast : ℕ → Option (List ℕ) → Type 0
EndsAtLast n None = Unit {0}
EndsAtLast n (Some old) = (n ≡ 0) ↔ (old ≡ [])

-- the first n bytes of `into` were handed over
pub record HasRead (n : ℕ) (into : List ℕ) (old new : Given) : Type 0 where
  pub within : n ≤ length into
  pub bytes : HandsOver (take n into) old.left new.left
  pub end : 1 ≤ length into → EndsAtLast n old.left
  pub faults : new.faults ≡ old.faults

-- the read has failed, and the bytes left are as they were
pub record HasNotRead (old new : Given) : Type 0 where
  pub left : new.left ≡ old.left
  pub faults : old.faults ≤ new.faults
  pub cause : HasRisen old.faults new.faults

-- what a read may tell, and leave
abbrev pub Reads : List ℕ → Given → Given → Result ℕ Failed → Type 0
Reads into old new (Ok n) = HasRead n into old new
Reads into old new (Err _) = HasNotRead old new

-- no byte is left, where they are told
abbrev pub IsAtEnd : Option (List ℕ) → Type 0
IsAtEnd None = Unit {0}
IsAtEnd (Some left) = left ≡ []
