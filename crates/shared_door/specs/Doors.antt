-- The folder by which processes come.
use Rattle.std.specs.Prelude.{◌≡◌, ◌≤◌, ◌⊎◌, ℕ, List, ◌++◌, codes, length}
use Rattle.std.specs.List.{All}

-- the path of what has this name and this ending in the folder
abbrev pub path_in : List ℕ → List ℕ → List ℕ → List ℕ
path_in folder name ending = folder ++ (codes "/" ++ (name ++ ending))

-- a digit or a dash
abbrev pub IsNameByte : ℕ → Type 0
IsNameByte byte = ((48 ≤ byte) × (byte ≤ 57)) ⊎ (byte ≡ 45)

-- the name of a process: 1 to 40 digits and dashes
abbrev pub IsProcessName : List ℕ → Type 0
IsProcessName name = (1 ≤ length name) × (length name ≤ 40) × All IsNameByte name
