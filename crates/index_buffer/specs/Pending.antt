-- What contracts see of a buffer.
use Rattle.std.specs.Prelude.{ℕ, List}
use Rattle.plfs_types.specs.declared.entries.Entry.{Entry}

-- the entries that have not landed, in order, and how many there may be
pub record Pending : Type 0 where
  pub entries : List Entry
  pub capacity : ℕ
