-- Patterns and the numbers in them.
use Rattle.std.specs.Prelude.{ℕ, List, [], ◌∷◌, ◌++◌, drop, take, ◌==◌, if◌then◌else◌, decimal, flat_map}

-- the digits of the first number, or nothing where no number is left
abbrev pub first_of : List ℕ → List ℕ
first_of numbers = flat_map decimal (take 1 numbers)

-- the pattern, with one of the numbers in the place of each '%', and nothing where no number is left
abbrev pub filled : List ℕ → List ℕ → List ℕ
filled [] numbers = []
filled (c ∷ pattern) numbers =
    if c == 37 then first_of numbers ++ filled pattern (drop 1 numbers) else c ∷ filled pattern numbers
