-- The key of a unit.
use Rattle.std.specs.Prelude.{◌≡◌, ℕ, ◌+◌, ◌-◌, List, length, Some}
use Rattle.plfs_types.specs.declared.entries.Entry.{Entry}
use Rattle.plain_file.specs.declared.changes.Change.{Change}
use Rattle.plain_file.specs.Shows.{write_at}
use Rattle.unit_format.specs.declared.finding.Unit.{Unit as Found}

-- where the unit begins, whose file's content has a place behind two lengths and the name
abbrev pub begins_at : Found → ℕ
begins_at u = u.at - (16 + length u.name)

-- some write shows the unit's first byte, and the unit has its key
pub record HasKeyOfWrite (changes : List Change) (u : Found) : Type 0 where
  pub entry : Entry
  pub shows : write_at changes (begins_at u) ≡ Some entry
  pub key : u.key ≡ record { stamp = entry.stamp; writer = entry.writer }
