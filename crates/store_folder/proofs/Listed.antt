-- A listing of an empty folder.
use Rattle.std.proofs.Common.{◌≡◌, List, [], ◌∷◌, None, refl, arith, rules}
use Rattle.std.specs.Prelude.{slice_get, IsPermutation}
use Rattle.std.proofs.lemmas.List.Sorted.{length_permutation}

-- sorted names of which there is no first come from an empty listing
pub none_listed : {X : Type 0} → (listing names : List X) → IsPermutation listing names → None ≡ slice_get names 0 → listing ≡ []
none_listed [] names same none = refl
none_listed (x ∷ listing) [] same none = absurd (omega (arith, length_permutation (x ∷ listing) [] same))
none_listed (x ∷ listing) (y ∷ names) same none = search (rules, none)
