-- Calls that are made for one name after the other.
use Rattle.std.proofs.Common.{◌≡◌, ℕ, ◌+◌, ◌<◌, ◌≤◌, inl, inr, List, [], ◌∷◌, ◌++◌, length, get_or, take, refl, sym, ap, subst, ◌∙◌, arith}
use Rattle.std.specs.List.{All, AllWithin}
use Rattle.std.proofs.lemmas.Bool.{cases_lt}
use Rattle.std.proofs.lemmas.List.{take_more, take_all}
use Rattle.std.proofs.lemmas.Option.{slice_get_read, get_or_from_slice_get}
use Rattle.folder_calls.specs.Calls.{Log}
use Rattle.store_folder.specs.ForEach.{Asking, ForEach, FailsAtOne}

-- what holds of all names holds of the next
pub of_next : (P : List ℕ → Type 0) (names : List (List ℕ)) (done : ℕ) (name : List ℕ) → done < length names → name ≡ get_or names done name → All P names → P name
of_next P names done name within is all = subst P (sym is) (all done name within)

-- what holds of the first names and of the next holds of one more
pub within_more : (P : List ℕ → Type 0) (names : List (List ℕ)) (done : ℕ) (name : List ℕ) → done < length names → name ≡ get_or names done name → AllWithin P names 0 done → P name → AllWithin P names 0 (done + 1)
within_more P names done name within is all here k d low high = elim (cases_lt k done) [
  | inl before ↦ all k d low before
  | inr past ↦
      let same : k ≡ done = omega (arith, past, high) in
      let one : get_or names done d ≡ name = get_or_from_slice_get names done name d (slice_get_read names (length names) done name refl within is) in
      let At : ℕ → Type 0 = λ k. P (get_or names k d) in
      subst At (sym same) (subst P (sym one) here)
]

module _ {F : Type 0} (asking : Asking F) where
  -- behind the calls for some names those for one more
  one_more : (names : List (List ℕ)) (name : List ℕ) (log between later : Log F) → ForEach asking names log between → asking name between later → ForEach asking (names ++ name ∷ []) log later
  one_more [] name log between later made asked =
      let Asked : Log F → Type 0 = λ from. asking name from later in
      (later, subst Asked made asked, refl)
  one_more (first ∷ names) name log between later made asked = (made.0, made.1, one_more names name made.0 between later made.2 asked)

  module _ (names : List (List ℕ)) where
    -- the calls for the first names are made, and those for the next
    pub goes_on : (done : ℕ) (name : List ℕ) (first now next : Log F) → done < length names → name ≡ get_or names done name → ForEach asking (take done names) first now → asking name now next → ForEach asking (take (done + 1) names) first next
    goes_on done name first now next within is made asked =
        let Made : List (List ℕ) → Type 0 = λ front. ForEach asking front first next in
        subst Made (ap (λ x. take done names ++ x ∷ []) is ∙ sym (take_more names done name within)) (one_more (take done names) name first now next made asked)

    -- no name is left
    pub all_made : (done : ℕ) (first now : Log F) → length names ≤ done → ForEach asking (take done names) first now → ForEach asking names first now
    all_made done first now ended made =
        let Made : List (List ℕ) → Type 0 = λ front. ForEach asking front first now in
        subst Made (take_all done names ended) made

    -- the calls for the next name failed
    pub fails_at : (failing : Asking F) (done : ℕ) (name : List ℕ) (first now later : Log F) → done < length names → name ≡ get_or names done name → ForEach asking (take done names) first now → failing name now later → FailsAtOne asking failing names first later
    fails_at failing done name first now later within is made failed =
        record { done = done; name = name; between = now; next = slice_get_read names (length names) done name refl within is; made = made; failed = failed }
