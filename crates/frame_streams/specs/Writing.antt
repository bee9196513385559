-- Bytes on a sink.
use Rattle.std.specs.Prelude.{◌≡◌, ◌⊎◌, ◌<◌, ℕ, List, length, take}
use Rattle.plfs_types.specs.Counts.{HasRisen}
use Rattle.edge_io.specs.Sink.{Taking, TakesOn}

-- all of them were taken
pub record IsWritten (bytes : List ℕ) (old new : Taking) : Type 0 where
  pub taken : TakesOn bytes old.taken new.taken
  pub faults : new.faults ≡ old.faults
  pub stalls : new.stalls ≡ old.stalls

-- a front of them was taken, and not all, and then the sink failed, or took nothing of a piece that isn't empty
pub record IsCutOff (bytes : List ℕ) (old new : Taking) : Type 0 where
  pub count : ℕ
  pub short : count < length bytes
  pub taken : TakesOn (take count bytes) old.taken new.taken
  pub cause : HasRisen old.faults new.faults ⊎ HasRisen old.stalls new.stalls
