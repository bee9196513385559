-- What later readers see of a source that was put into a file.
use Rattle.std.specs.Prelude.{◌≡◌, true, List, ℕ, Some}
use Rattle.edge_io.specs.Source.{Given}
use Rattle.mount_model.specs.State.{State}
use Rattle.reader_laws.specs.Moments.{IsSoundAt, Moment}
use Rattle.copy_core.specs.declared.copying.Copied.{Copied}
use Rattle.copy_core.specs.Blocks.{joined}
use Rattle.put_program.specs.Copied.{IsKeptCopy}
use Rattle.put_program.specs.CopyingLawsSeen.{LaterReadersSee}

-- The bytes that were taken from the source are kept, and each later reader sees just these. Where the source ended, they are all that it had.
pub record IsSeen (name : List ℕ) (start : State) (given : Given) (copied : Copied) (end : State) (given_after : Given) : Type 0 where
  pub moment : Moment
  pub here : moment.state ≡ start
  pub sound : IsSoundAt moment
  pub kept : IsKeptCopy name moment given copied end given_after
  pub seen : LaterReadersSee moment kept.copy (joined kept.blocks)
  pub whole : (bytes : List ℕ) → copied.is_whole ≡ true → given.left ≡ Some bytes → joined kept.blocks ≡ bytes
