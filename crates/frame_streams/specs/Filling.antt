-- What was read of a source.
use Rattle.std.specs.Prelude.{◌≡◌, ◌<◌, ℕ, List, length}
use Rattle.plfs_types.specs.Counts.{HasRisen}
use Rattle.edge_io.specs.Source.{Given, HandsOver}
use Rattle.frame_streams.specs.declared.filling.Ending.{Ending}
use Rattle.frame_streams.specs.declared.filling.Ending.TheVariants.{Full, AtEnd, Failed}
use Rattle.edge_io.specs.Source.{IsAtEnd}

-- All came that were wanted. Or the source has no further byte, or a read failed, before that.
abbrev pub EndsReading : ℕ → List ℕ → Ending → Given → Given → Type 0
EndsReading wanted bytes Full old new = (length bytes ≡ wanted) × (new.faults ≡ old.faults)
EndsReading wanted bytes AtEnd old new = (length bytes < wanted) × IsAtEnd new.left × (new.faults ≡ old.faults)
EndsReading wanted bytes Failed old new = (length bytes < wanted) × HasRisen old.faults new.faults

-- these bytes were handed over, of so many that were wanted, and how their reading ended
pub record HasFilled (wanted : ℕ) (bytes : List ℕ) (ending : Ending) (old new : Given) : Type 0 where
  pub handed : HandsOver bytes old.left new.left
  pub ends : EndsReading wanted bytes ending old new
