-- What is told of a writer's entries together, beside their rules, which stand with the form of an entry.
use Rattle.std.specs.Prelude.{◌+◌, ℕ, List, [], ◌∷◌, max}
use Rattle.plfs_types.specs.declared.entries.Entry.{Entry}
pub use Rattle.index_entry.specs.Entries.{MayFollow, AreEntriesOf, logged, last_stamp}

-- the greatest logical end of the entries, or 0 where there is none
abbrev pub greatest_end : List Entry → ℕ
greatest_end [] = 0
greatest_end (e ∷ es) = max (e.at + e.len) (greatest_end es)
