-- The files of a folder that are put, and what of it is left out.
use Rattle.std.specs.Prelude.{◌≡◌, ◌⊎◌, true, ℕ, List, [], ◌∷◌, ◌++◌, IsSorted, codes, reverse}
use Rattle.std.specs.Ordering.{nat_cmp}
use Rattle.std.specs.Cmp.Lexicographic.{slice_cmp}
use Rattle.plfs_types.specs.Names.{IsLogicalName}
use Rattle.plfs.specs.declared.entries.Entries.{Entries}

-- the file of this name came to them
abbrev pub IsKept : Entries → List ℕ → Entries → Type 0
IsKept old name new = (new.names.items ≡ old.names.items ++ name ∷ []) × (new.has_closed ≡ old.has_closed) × (new.has_others ≡ old.has_others)

-- a file that can't be opened was left out
abbrev pub IsClosed : Entries → Entries → Type 0
IsClosed old new = (new.names.items ≡ old.names.items) × (new.has_closed ≡ true) × (new.has_others ≡ old.has_others)

-- something else was left out
abbrev pub IsLeft : Entries → Entries → Type 0
IsLeft old new = (new.names.items ≡ old.names.items) × (new.has_closed ≡ old.has_closed) × (new.has_others ≡ true)

-- nothing of a folder goes by unseen: it is put, or it is kept in mind that something was left out
abbrev pub IsMet : Entries → Entries → Type 0
IsMet old new = ((name : List ℕ) × IsLogicalName name × IsKept old name new) ⊎ IsClosed old new ⊎ IsLeft old new

-- the names are in their order, but the last one first
abbrev pub IsLastFirst : List (List ℕ) → Type 0
IsLastFirst names = IsSorted (λ (a : List ℕ) b. slice_cmp nat_cmp a b) (reverse names)

-- the path of this name in a folder
abbrev pub path_of : List ℕ → List ℕ → List ℕ
path_of folder name = folder ++ (codes "/" ++ name)
