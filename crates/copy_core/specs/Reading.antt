-- What was read of a source.
use Rattle.std.specs.Prelude.{◌≡◌, ◌<◌, ℕ, List, length}
use Rattle.plfs_types.specs.Counts.{HasRisen}
use Rattle.plfs_types.specs.declared.bytes.TheConstants.{MAX_BLOCK}
use Rattle.edge_io.specs.Source.{Given, HandsOver}
use Rattle.copy_core.specs.declared.reading.Ending.{Ending}
use Rattle.copy_core.specs.declared.reading.Ending.TheVariants.{Full, AtEnd, Failed}
use Rattle.edge_io.specs.Source.{IsAtEnd}

-- A block was read in full. Or the source has no further byte, or a read failed, before that.
abbrev pub EndsReading : List ℕ → Ending → Given → Given → Type 0
EndsReading bytes Full old new = (length bytes ≡ MAX_BLOCK) × (new.faults ≡ old.faults)
EndsReading bytes AtEnd old new = (length bytes < MAX_BLOCK) × IsAtEnd new.left × (new.faults ≡ old.faults)
EndsReading bytes Failed old new = (length bytes < MAX_BLOCK) × HasRisen old.faults new.faults

-- these bytes were handed over, and how their reading ended
pub record HasFilled (bytes : List ℕ) (ending : Ending) (old new : Given) : Type 0 where
  pub handed : HandsOver bytes old.left new.left
  pub ends : EndsReading bytes ending old new
