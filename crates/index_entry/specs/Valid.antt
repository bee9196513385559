-- Which entries are valid, and the first rule that another one breaks.
use Rattle.std.specs.Prelude.{◌≡◌, ◌+◌, ◌≤◌, ◌<◌, ◌⊎◌}
use Rattle.plfs_types.specs.declared.entries.Entry.{Entry}
use Rattle.plfs_types.specs.declared.limits.TheConstants.{MAX_SIZE, MAX_STAMP}
use Rattle.plfs_types.specs.Stamps.{Fits}
use Rattle.index_entry.specs.declared.reading.BadEntry.{BadEntry}
use Rattle.index_entry.specs.declared.reading.BadEntry.TheVariants.{ZeroLength, TooFar, StampRange}

-- at least one byte, an end within the greatest size, and a stamp from 1 to the greatest
pub record IsValidEntry (entry : Entry) : Type 0 where
  pub not_empty : 1 ≤ entry.len
  pub near : Fits entry.at entry.len
  pub stamped : 1 ≤ entry.stamp
  pub stamp_fits : entry.stamp ≤ MAX_STAMP

-- the rules in order: a length of 0, an end past the greatest size, a stamp of 0 or past the greatest
abbrev pub Breaks : Entry → BadEntry → Type 0
Breaks entry ZeroLength = entry.len ≡ 0
Breaks entry TooFar = (1 ≤ entry.len) × (MAX_SIZE < entry.at + entry.len)
Breaks entry StampRange = (1 ≤ entry.len) × Fits entry.at entry.len × ((entry.stamp ≡ 0) ⊎ (MAX_STAMP < entry.stamp))
