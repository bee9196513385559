-- The items of a list by their numbers, and where the one of a number would stand.
use Rattle.std.specs.Prelude.{ℕ, ◌==◌, if◌then◌else◌, List, [], ◌∷◌, map, Option, Some, None}
use Rattle.mount_model.specs.Regular.{Ascend}

-- the first item of this number
abbrev pub item_of : {A : Type 0} → (A → ℕ) → ℕ → List A → Option A
item_of number_of number [] = None
item_of number_of number (item ∷ items) = if number_of item == number then Some item else item_of number_of number items

-- the number of each item is below those of the items after it
abbrev pub AscendBy : {A : Type 0} → (A → ℕ) → List A → Type 0
AscendBy number_of items = Ascend (map number_of items)
