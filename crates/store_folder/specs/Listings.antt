-- The names that a listing tells.
use Rattle.std.specs.Prelude.{◌≡◌, ℕ, List, Some, slice_get, IsSorted, IsPermutation}
use Rattle.std.specs.Cmp.Lexicographic.{slice_cmp}
use Rattle.std.specs.Ordering.{nat_cmp}
use Rattle.store_api.specs.declared.step.Answer.{Answer}
use Rattle.store_api.specs.declared.step.Answer.TheVariants.{Names}

-- these are the names of a listing, in byte order
abbrev pub IsSortedListing : List (List ℕ) → List (List ℕ) → Type 0
IsSortedListing listing names = IsPermutation listing names × IsSorted (slice_cmp nat_cmp) names

-- this is the least name of a listing
abbrev pub IsLeast : List (List ℕ) → List ℕ → Type 0
IsLeast listing least = (names : List (List ℕ)) × IsSortedListing listing names × (slice_get names 0 ≡ Some least)

-- the answer tells these names in byte order
abbrev pub TellsNames : List (List ℕ) → Answer → Type 0
TellsNames listing (Names names) = IsSortedListing listing names
TellsNames listing other = ⊥
