-- The folders of droppings, one after the other.
use Rattle.std.proofs.Common.{◌≡◌, ◌<◌, ◌≤◌, ◌+◌, ◌-◌, ℕ, suc, inl, inr, List, [], ◌∷◌, ◌++◌, length, map, ap, ◌∙◌, sym, arith, append_assoc}
use Rattle.std.specs.List.{range_with_len}
use Rattle.std.proofs.lemmas.Bool.{cases_Bool, cond-true, cond-false}
use Rattle.container_layout.specs.Paths.{hostdir_of}
use Rattle.index_reader.specs.Searching.{has_name}
use Rattle.index_reader.specs.Tops.{shown}

range_step : (h : ℕ) → h < 32 → range_with_len h (32 - h) ≡ h ∷ range_with_len (h + 1) (32 - (h + 1))
range_step h lt = let e : 32 - h ≡ suc (32 - (h + 1)) = omega arith in ap (range_with_len h) e

-- one name more
pub names_step : (names : List (List ℕ)) (h : ℕ) → h < 32 → (names ++ hostdir_of h ∷ []) ++ map hostdir_of (range_with_len (h + 1) (32 - (h + 1))) ≡ names ++ map hostdir_of (range_with_len h (32 - h))
names_step names h lt = append_assoc names (hostdir_of h ∷ []) (map hostdir_of (range_with_len (h + 1) (32 - (h + 1)))) ∙ ap (λ ks. names ++ map hostdir_of ks) (sym (range_step h lt))

shown_one : (names : List (List ℕ)) (k : ℕ) (ks : List ℕ) → shown names (k ∷ ks) ≡ shown names (k ∷ []) ++ shown names ks
shown_one names k ks = elim (cases_Bool (has_name (hostdir_of k) names)) [
  | inl t ↦ cond-true (has_name (hostdir_of k) names) (k ∷ shown names ks) (shown names ks) t
      ∙ ap (λ l. l ++ shown names ks) (sym (cond-true (has_name (hostdir_of k) names) (k ∷ []) [] t))
  | inr f ↦ cond-false (has_name (hostdir_of k) names) (k ∷ shown names ks) (shown names ks) f
      ∙ ap (λ l. l ++ shown names ks) (sym (cond-false (has_name (hostdir_of k) names) (k ∷ []) [] f))
]

pub one_shown : (names : List (List ℕ)) (k : ℕ) → length (shown names (k ∷ [])) ≤ 1
one_shown names k = elim (cases_Bool (has_name (hostdir_of k) names)) [
  | inl t ↦ (let e = cond-true (has_name (hostdir_of k) names) (k ∷ []) [] t in omega (arith, ap length e))
  | inr f ↦ (let e = cond-false (has_name (hostdir_of k) names) (k ∷ []) [] f in omega (arith, ap length e))
]

-- one folder more
pub shown_step : (names : List (List ℕ)) (list : List ℕ) (h : ℕ) → h < 32
    → (list ++ shown names (h ∷ [])) ++ shown names (range_with_len (h + 1) (32 - (h + 1))) ≡ list ++ shown names (range_with_len h (32 - h))
shown_step names list h lt =
    append_assoc list (shown names (h ∷ [])) (shown names (range_with_len (h + 1) (32 - (h + 1))))
    ∙ ap (λ ks. list ++ ks) (sym (shown_one names h (range_with_len (h + 1) (32 - (h + 1)))))
    ∙ ap (λ ks. list ++ shown names ks) (sym (range_step h lt))
