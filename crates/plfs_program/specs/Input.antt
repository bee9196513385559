-- What was read of a source.
use Rattle.std.specs.Prelude.{ℕ, ◌≡◌, ◌≤◌, ◌⊎◌, List, ◌++◌, length, Some}
use Rattle.edge_io.specs.Source.{Given, HandsOver, EndsAtLast}
use Rattle.edge_io.specs.Source.{IsAtEnd}

-- one read gave n bytes, which stand behind those that were there
pub record HasMore (n : ℕ) (before after : List ℕ) (old new : Given) : Type 0 where
  pub piece : List ℕ
  pub count : length piece ≡ n
  pub joined : after ≡ before ++ piece
  pub handed : HandsOver piece old.left new.left
  pub end : EndsAtLast n old.left

-- the bytes were read from the front of the source, to its end or to the limit, and no read failed
pub record IsWholeInput (limit : ℕ) (bytes : List ℕ) (old new : Given) : Type 0 where
  pub handed : HandsOver bytes old.left new.left
  pub faults : new.faults ≡ old.faults
  pub within : length bytes ≤ limit
  pub to_end : (length bytes ≡ limit) ⊎ IsAtEnd new.left

-- bytes that were read before are all left, and no read has failed
abbrev pub held : List ℕ → Given
held bytes = record { left = Some bytes; faults = 0 }
