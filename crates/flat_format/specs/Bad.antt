-- The place at which bytes stop being a valid flattened index.
use Rattle.std.specs.Prelude.{◌≡◌, ℕ, ◌+◌, ◌*◌, ◌≤◌, ◌<◌, List, length, take, ◌⊎◌}
use Rattle.plfs_types.specs.declared.limits.TheConstants.{ENTRY_SIZE}
use Rattle.index_entry.specs.Spelling.{number_in}
use Rattle.flat_format.specs.declared.flat.TheConstants.{HEAD_SIZE, COVER_SIZE}
use Rattle.flat_format.specs.declared.flat.Flat.{Flat}
use Rattle.flat_format.specs.declared.flat.FlatTrouble.{FlatTrouble}
use Rattle.flat_format.specs.declared.flat.FlatTrouble.TheVariants.{NoMemory, Bad}
use Rattle.flat_format.specs.Covers.{AreCovers}
use Rattle.flat_format.specs.Spelling.{letters, SpellsFlat}
use Rattle.flat_format.specs.Valid.{AreFlatPieces}

-- it begins with the letters, and has both counts
pub record HasHead (bytes : List ℕ) : Type 0 where
  pub long : HEAD_SIZE ≤ length bytes
  pub lettered : take 8 bytes ≡ letters

-- it is as long as its counts say
abbrev pub HasLength : List ℕ → Type 0
HasLength bytes = length bytes ≡ HEAD_SIZE + COVER_SIZE * number_in 8 bytes + ENTRY_SIZE * number_in 16 bytes

-- the first so many are valid, and with the next one they are not
pub record BreaksAt {A : Type 0} (AreValid : List A → Type 0) (xs : List A) (index : ℕ) : Type 0 where
  pub there : index < length xs
  pub before : AreValid (take index xs)
  pub broken : AreValid (take (index + 1) xs) → ⊥

-- the place of the first record that breaks a rule
abbrev pub BreaksFirst : Flat → ℕ → Type 0
BreaksFirst flat place =
    ((index : ℕ) × BreaksAt AreCovers flat.covers index × (place ≡ HEAD_SIZE + COVER_SIZE * index))
    ⊎ ((index : ℕ) × AreCovers flat.covers × BreaksAt (AreFlatPieces flat.covers) flat.pieces index
    × (place ≡ HEAD_SIZE + COVER_SIZE * length flat.covers + ENTRY_SIZE * index))

-- 0 where the head is wrong, else 8 where the length doesn't fit the counts, else the first record that breaks a rule
abbrev pub IsBadAt : List ℕ → ℕ → Type 0
IsBadAt bytes place =
    ((HasHead bytes → ⊥) × (place ≡ 0))
    ⊎ (HasHead bytes × (HasLength bytes → ⊥) × (place ≡ 8))
    ⊎ ((flat : Flat) × SpellsFlat bytes flat × BreaksFirst flat place)

-- bad bytes at this place
abbrev pub IsFlatTrouble : List ℕ → FlatTrouble → Type 0
IsFlatTrouble bytes NoMemory = Unit {0}
IsFlatTrouble bytes (Bad place) = IsBadAt bytes place
