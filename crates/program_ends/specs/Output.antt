-- What was written to a sink.
use Rattle.std.specs.Prelude.{ℕ, ◌≡◌, ◌<◌, ◌⊎◌, List, length, take}
use Rattle.plfs_types.specs.Counts.{HasRisen}
use Rattle.edge_io.specs.Sink.{Taking, TakesOn}

-- all of the text was taken, and no write failed or took nothing of it
pub record IsPrinted (text : List ℕ) (old new : Taking) : Type 0 where
  pub bytes : TakesOn text old.taken new.taken
  pub faults : new.faults ≡ old.faults
  pub stalls : new.stalls ≡ old.stalls

-- a front of the text was taken, and not all of it, and then the sink failed, or took nothing of a piece that isn't empty
pub record IsCutOff (text : List ℕ) (old new : Taking) : Type 0 where
  pub count : ℕ
  pub short : count < length text
  pub bytes : TakesOn (take count text) old.taken new.taken
  pub cause : HasRisen old.faults new.faults ⊎ HasRisen old.stalls new.stalls
