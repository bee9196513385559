-- The troubles of bytes that are read record by record.
use Rattle.std.specs.Prelude.{◌≡◌, ℕ, ◌+◌, ◌*◌, List, ◌⊎◌}
use Rattle.flat_format.specs.declared.flat.FlatTrouble.{FlatTrouble}
use Rattle.flat_format.specs.declared.flat.FlatTrouble.TheVariants.{NoMemory, Bad}
use Rattle.flat_format.specs.Bad.{BreaksAt, BreaksFirst, HasHead, HasLength}
use Rattle.flat_format.specs.Reading.{flat_in}

-- the trouble is want of memory, or the first of these records, from this place on and so wide, that breaks a rule
abbrev pub IsRecordTrouble : {A : Type 0} → (List A → Type 0) → List A → ℕ → ℕ → FlatTrouble → Type 0
IsRecordTrouble AreValid xs begin width NoMemory = Unit {0}
IsRecordTrouble AreValid xs begin width (Bad place) = (index : ℕ) × BreaksAt AreValid xs index × (place ≡ begin + width * index)

-- the trouble is want of memory, a wrong head or length, or the first of the records that breaks a rule
abbrev pub IsJudgedTrouble : List ℕ → FlatTrouble → Type 0
IsJudgedTrouble bytes NoMemory = Unit {0}
IsJudgedTrouble bytes (Bad place) =
    ((HasHead bytes → ⊥) × (place ≡ 0))
    ⊎ (HasHead bytes × (HasLength bytes → ⊥) × (place ≡ 8))
    ⊎ (HasHead bytes × HasLength bytes × BreaksFirst (flat_in bytes) place)
