-- How entries lie in bytes.
use Rattle.std.specs.Prelude.{◌≡◌, ℕ, ◌<◌, ◌^◌, List, ◌++◌, take, drop}
use Rattle.std.specs.List.{flat_map}
use Rattle.std.specs.Int.{w64, to_le_bytes, from_le_bytes}
use Rattle.plfs_types.specs.declared.entries.Entry.{Entry}

-- five numbers of 8 bytes, the lowest byte first
unfoldable pub spelling : Entry → List ℕ
spelling entry =
    to_le_bytes w64 entry.at
    ++ to_le_bytes w64 entry.len
    ++ to_le_bytes w64 entry.physical
    ++ to_le_bytes w64 entry.stamp
    ++ to_le_bytes w64 entry.writer

-- entries one after the other
abbrev pub spelling_all : List Entry → List ℕ
spelling_all entries = flat_map spelling entries

-- each number of the entry has a place of 8 bytes
pub record FitsPlaces (entry : Entry) : Type 0 where
  pub at_fits : entry.at < 2 ^ 64
  pub len_fits : entry.len < 2 ^ 64
  pub physical_fits : entry.physical < 2 ^ 64
  pub stamp_fits : entry.stamp < 2 ^ 64
  pub writer_fits : entry.writer < 2 ^ 64

-- the bytes are those of the entry, valid or not
pub record Spells (bytes : List ℕ) (entry : Entry) : Type 0 where
  pub places : FitsPlaces entry
  pub spelled : bytes ≡ spelling entry

-- the bytes are those of an entry of which this holds
abbrev pub SpellsSome : List ℕ → (Entry → Type 0) → Type 0
SpellsSome bytes P = (entry : Entry) × Spells bytes entry × P entry

-- the number that 8 bytes from this place on are
abbrev pub number_in : ℕ → List ℕ → ℕ
number_in place bytes = from_le_bytes w64 (take 8 (drop place bytes))

-- the entry that the first 40 bytes are, valid or not
unfoldable pub entry_in : List ℕ → Entry
entry_in bytes = record {
  at = number_in 0 bytes;
  len = number_in 8 bytes;
  physical = number_in 16 bytes;
  stamp = number_in 24 bytes;
  writer = number_in 32 bytes;
}
