-- Names that can stand in a path.
use Rattle.std.specs.Prelude.{ℕ, List, [], ◌∷◌, ◌≡◌, ◌⊎◌, Bool, not, ◌&&◌, ◌==◌, IsTrue, All}
use Rattle.plfs_types.specs.Names.{IsLogicalName}

-- neither '/' nor NUL
abbrev pub is_part_byte : ℕ → Bool
is_part_byte b = not (b == 47) && not (b == 0)

-- the empty name, "." and ".." name no item of a folder
abbrev pub IsNoItem : List ℕ → Type 0
IsNoItem name = (name ≡ []) ⊎ ((name ≡ 46 ∷ []) ⊎ (name ≡ 46 ∷ 46 ∷ []))

-- a name of one item of a folder
pub record IsPart (name : List ℕ) : Type 0 where
  pub item : ¬ (IsNoItem name)
  pub bytes : All (λ b. IsTrue (is_part_byte b)) name

-- the name of a room: ".plfs" or a logical name
abbrev pub IsRoomName : List ℕ → Type 0
IsRoomName name = (name ≡ 46 ∷ 112 ∷ 108 ∷ 102 ∷ 115 ∷ []) ⊎ IsLogicalName name
