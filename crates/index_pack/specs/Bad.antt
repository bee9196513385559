-- The place at which bytes stop being a packed index.
use Rattle.std.specs.Prelude.{◌≡◌, ℕ, zero, suc, ◌+◌, ◌*◌, ◌≤◌, List, [], ◌∷◌, length, take, ◌⊎◌}
use Rattle.index_entry.specs.Entries.{logged, last_stamp}
use Rattle.index_entry.specs.Spelling.{number_in}
use Rattle.index_pack.specs.declared.runs.Run.{Run}
use Rattle.index_pack.specs.declared.trouble.TheConstants.{HEAD_SIZE, RUN_SIZE}
use Rattle.index_pack.specs.declared.trouble.PackTrouble.{PackTrouble}
use Rattle.index_pack.specs.declared.trouble.PackTrouble.TheVariants.{NoMemory, Bad}
use Rattle.index_pack.specs.Runs.{entries_of, run_entries}
use Rattle.index_pack.specs.Spelling.{letters, SpellsRuns}
use Rattle.index_pack.specs.Valid.{IsCount, IsValidRun, AreValidRuns, writer_of}

-- it begins with the letters, and has both counts
pub record HasHead (bytes : List ℕ) : Type 0 where
  pub long : HEAD_SIZE ≤ length bytes
  pub lettered : take 8 bytes ≡ letters

-- the number of entries is in range
abbrev pub HasCount : List ℕ → Type 0
HasCount bytes = IsCount (number_in 8 bytes)

-- it is as long as its number of runs says
abbrev pub HasLength : List ℕ → Type 0
HasLength bytes = length bytes ≡ HEAD_SIZE + RUN_SIZE * number_in 16 bytes

-- the runs before the one of this index keep all rules, and it breaks one
abbrev pub BreaksAt : ℕ → ℕ → ℕ → List Run → ℕ → Type 0
BreaksAt writer last offset [] index = ⊥
BreaksAt writer last offset (r ∷ runs) zero = IsValidRun writer last offset r runs → ⊥
BreaksAt writer last offset (r ∷ runs) (suc index) =
    IsValidRun writer last offset r runs × BreaksAt writer (last_stamp last (run_entries r)) (offset + logged (run_entries r)) runs index

-- the place of the first run that breaks a rule, else 8 where the runs have another number of entries
abbrev pub BreaksFirst : ℕ → List Run → ℕ → Type 0
BreaksFirst count runs place =
    ((index : ℕ) × BreaksAt (writer_of runs) 0 0 runs index × (place ≡ HEAD_SIZE + RUN_SIZE * index))
    ⊎ (AreValidRuns runs × (length (entries_of runs) ≡ count → ⊥) × (place ≡ 8))

-- 0 where the head is wrong, else 8 where the number of entries is out of range, else 16 where the length doesn't fit the
-- number of runs, else the first run that breaks a rule, else 8 where the runs have another number of entries
abbrev pub IsBadAt : List ℕ → ℕ → Type 0
IsBadAt bytes place =
    ((HasHead bytes → ⊥) × (place ≡ 0))
    ⊎ (HasHead bytes × (HasCount bytes → ⊥) × (place ≡ 8))
    ⊎ (HasHead bytes × HasCount bytes × (HasLength bytes → ⊥) × (place ≡ 16))
    ⊎ ((count : ℕ) × (runs : List Run) × SpellsRuns bytes count runs × IsCount count × BreaksFirst count runs place)

-- bad bytes at this place
abbrev pub IsPackTrouble : List ℕ → PackTrouble → Type 0
IsPackTrouble bytes NoMemory = Unit {0}
IsPackTrouble bytes (Bad place) = IsBadAt bytes place
