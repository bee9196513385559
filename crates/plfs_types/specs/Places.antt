-- Items of lists, and their places.
use Rattle.std.specs.Prelude.{◌≡◌, ℕ, zero, suc, ◌≤◌, ◌<◌, List, [], ◌∷◌}
use Rattle.std.specs.List.{Any}

abbrev pub IsAmong : {X : Type 0} → X → List X → Type 0
IsAmong x xs = Any (λ y. y ≡ x) xs

-- the next of these items, where there is one, has this number or a greater one
abbrev pub BeginsFrom : {A : Type 0} → (A → ℕ) → ℕ → List A → Type 0
BeginsFrom number_of number [] = Unit {0}
BeginsFrom number_of number (item ∷ items) = number ≤ number_of item

-- the first so many items have lesser numbers than this one, and the next one doesn't
abbrev pub HasPassed : {A : Type 0} → (A → ℕ) → ℕ → ℕ → List A → Type 0
HasPassed number_of number zero items = BeginsFrom number_of number items
HasPassed number_of number (suc place) [] = Unit {0}
HasPassed number_of number (suc place) (item ∷ items) = (number_of item < number) × HasPassed number_of number place items
