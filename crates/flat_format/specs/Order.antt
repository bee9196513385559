-- The last one of a list, and the place of a writer among covers.
use Rattle.std.specs.Prelude.{ℕ, zero, suc, ◌≤◌, ◌<◌, List, [], ◌∷◌}
use Rattle.plfs_types.specs.declared.entries.Cover.{Cover}

-- this holds of the last one, if there is one
abbrev pub AtLast : {A : Type 0} → (A → Type 0) → List A → Type 0
AtLast P [] = Unit {0}
AtLast P (x ∷ []) = P x
AtLast P (x ∷ y ∷ xs) = AtLast P (y ∷ xs)

-- the writer of the first cover, if there is one, is this one or greater
abbrev pub CoversFrom : ℕ → List Cover → Type 0
CoversFrom writer [] = Unit {0}
CoversFrom writer (c ∷ covers) = writer ≤ c.writer

-- the first so many covers are of lesser writers, and the next one isn't
abbrev pub HasPassedCovers : ℕ → ℕ → List Cover → Type 0
HasPassedCovers writer zero covers = CoversFrom writer covers
HasPassedCovers writer (suc place) [] = Unit {0}
HasPassedCovers writer (suc place) (c ∷ covers) = (c.writer < writer) × HasPassedCovers writer place covers
