-- What is kept of a writer's entries.
use Rattle.std.specs.Prelude.{◌≡◌, ℕ, List, length}
use Rattle.plfs_types.specs.declared.entries.Entry.{Entry}
use Rattle.mount_sound.specs.Dropping.{IsToldOf}
use Rattle.torn_tail.specs.Words.{Run}

-- the run counts these entries of the writer, and tells of them what a metadata dropping does
pub record TellsOf (writer : ℕ) (run : Run) (entries : List Entry) : Type 0 where
  pub own : run.cover.writer ≡ writer
  pub counts : run.cover.count ≡ length entries
  pub told : IsToldOf run.last run.cover.bytes run.cover.stamp entries
