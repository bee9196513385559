-- What is told of paths, of one after the other.
use Rattle.std.proofs.Common.{◌≡◌, ℕ, zero, suc, inl, inr, List, [], ◌∷◌, ◌++◌, take, Some, refl, ap, sym, subst}
use Rattle.std.specs.Prelude.{slice_get}
use Rattle.std.specs.List.{AllByRecursion}
use Rattle.plfs_types.specs.declared.names.Path.{Path}
use Rattle.shape_check.specs.declared.finding.Complaint.{Complaint}
use Rattle.shape_check.specs.Shape.{IsOneOf}
use Rattle.tree_check.specs.Complaining.{TellsOfEach}

module _ (R : Path → Complaint → Type 0) (Q : Path → Type 0) where
  -- one more path, of which it is so
  pub each_fine : (paths : List Path) (i : ℕ) (path : Path) (found : List Complaint) → slice_get paths i ≡ Some path → Q path → TellsOfEach R Q (take i paths) found → TellsOfEach R Q (take (suc i) paths) found
  each_fine [] i path found at q told = absurd (cc)
  each_fine (p ∷ ps) zero path [] at q told = (let same : p ≡ path = cc in inl (subst Q (sym same) q, tt))
  each_fine (p ∷ ps) zero path (c ∷ found) at q told = absurd told
  each_fine (p ∷ ps) (suc i) path found at q told = elim told [
    | inl both ↦ inl (both.0, each_fine ps i path found at q both.1)
    | inr one ↦ inr (one.0, one.1, one.2, one.3, each_fine ps i path one.1 at q one.4)
  ]

  -- one more path, of which one complaint is told
  pub each_wrong : (paths : List Path) (i : ℕ) (path : Path) (found : List Complaint) (complaint : Complaint) → slice_get paths i ≡ Some path → R path complaint → TellsOfEach R Q (take i paths) found
      → TellsOfEach R Q (take (suc i) paths) (found ++ complaint ∷ [])
  each_wrong [] i path found complaint at right told = absurd (cc)
  each_wrong (p ∷ ps) zero path [] complaint at right told = (let same : p ≡ path = cc in inr (complaint, [], refl, subst (λ (x : Path). R x complaint) (sym same) right, tt))
  each_wrong (p ∷ ps) zero path (c ∷ found) complaint at right told = absurd told
  each_wrong (p ∷ ps) (suc i) path found complaint at right told = elim told [
    | inl both ↦ inl (both.0, each_wrong ps i path found complaint at right both.1)
    | inr one ↦ inr (one.0, one.1 ++ complaint ∷ [], ap (λ (l : List Complaint). l ++ complaint ∷ []) one.2, one.3, each_wrong ps i path one.1 complaint at right one.4)
  ]

  -- all that is told has what R gives
  pub each_right : (S : Complaint → Type 0) → ((path : Path) (complaint : Complaint) → R path complaint → S complaint) → (paths : List Path) (found : List Complaint) → TellsOfEach R Q paths found → AllByRecursion S found
  each_right S gives [] [] told = tt
  each_right S gives [] (c ∷ found) told = absurd told
  each_right S gives (p ∷ ps) found told = elim told [
    | inl both ↦ each_right S gives ps found both.1
    | inr one ↦ subst (AllByRecursion S) (sym one.2) (gives p one.0 one.3, each_right S gives ps one.1 one.4)
  ]

  -- where nothing is, it is so of each path
  pub each_none : (paths : List Path) → TellsOfEach R Q paths [] → (path : Path) → IsOneOf paths path → Q path
  each_none [] told path one = absurd one
  each_none (p ∷ ps) told path one = elim told [
    | inl both ↦ elim one [
      | inl same ↦ subst Q same both.0
      | inr later ↦ each_none ps both.1 path later
    ]
    | inr wrong ↦ (let clash : [] ≡ wrong.0 ∷ wrong.1 = wrong.2 in absurd (cc))
  ]
