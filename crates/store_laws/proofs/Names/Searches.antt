-- Searches in a list that has changed at one place.
use Rattle.std.proofs.Common.{◌≡◌, ℕ, zero, suc, ◌≤◌, Bool, true, false, cond, ◌||◌, nat_lt, List, [], ◌∷◌, ◌++◌, length, slice_get, slice_set, Some, None, refl, ap, ◌∙◌, subst, arith}
use Rattle.std.specs.List.{find, list_any, position, position_or_len, remove}
use Rattle.std.proofs.lemmas.Bool.Decides.{nat_tests}
use Rattle.std.proofs.lemmas.Option.{slice_get_past}
use Rattle.std.proofs.lemmas.List.Folds.{find_at, find-append, list_any-append}

either : (a b : Bool) → (a || b) ≡ false → (a ≡ false) × (b ≡ false)
either true b e = absurd (cc)
either false b e = (refl, e)

no_other : (a b : Bool) → a ≡ false → b ≡ false → (a || b) ≡ false
no_other true b e f = absurd (cc)
no_other false b e f = f

-- none is found where none passes
pub find_none : {X : Type 0} (p : X → Bool) (xs : List X) → list_any p xs ≡ false → find p xs ≡ None
find_none p [] e = refl
find_none p (x ∷ xs) e =
    let parts = either (p x) (list_any p xs) e in
    rw (parts.0) (find_none p xs parts.1)

-- none passes where none is found
pub none_found : {X : Type 0} (p : X → Bool) (xs : List X) → find p xs ≡ None → list_any p xs ≡ false
none_found p [] e = refl
none_found p (x ∷ xs) e = elim (p x) as (λ b. p x ≡ b → cond b (Some x) (find p xs) ≡ None → (b || list_any p xs) ≡ false) [
  | true ↦ λ is found. absurd (cc)
  | false ↦ λ is found. none_found p xs found
] refl e

-- an item of a list in which none passes
pub none_at : {X : Type 0} (p : X → Bool) (xs : List X) (i : ℕ) (x : X) → list_any p xs ≡ false → slice_get xs i ≡ Some x → p x ≡ false
none_at p [] i x e at = absurd (cc)
none_at p (y ∷ xs) zero x e at = let same : y ≡ x = cc in subst (λ z. p z ≡ false) same (either (p y) (list_any p xs) e).0
none_at p (y ∷ xs) (suc i) x e at = none_at p xs i x (either (p y) (list_any p xs) e).1 at

-- none passes of a list with one more that doesn't
pub none_more : {X : Type 0} (p : X → Bool) (xs : List X) (y : X) → list_any p xs ≡ false → p y ≡ false → list_any p (xs ++ y ∷ []) ≡ false
none_more p xs y e f = list_any-append p xs (y ∷ []) ∙ no_other (list_any p xs) (p y || false) e (no_other (p y) false f refl)

-- nor of a list with another item that doesn't
pub none_set : {X : Type 0} (p : X → Bool) (xs : List X) (i : ℕ) (y : X) → list_any p xs ≡ false → p y ≡ false → list_any p (slice_set xs i y) ≡ false
none_set p [] i y e f = refl
none_set p (x ∷ xs) zero y e f = no_other (p y) (list_any p xs) f (either (p x) (list_any p xs) e).1
none_set p (x ∷ xs) (suc i) y e f =
    let parts = either (p x) (list_any p xs) e in
    no_other (p x) (list_any p (slice_set xs i y)) parts.0 (none_set p xs i y parts.1 f)

-- nor of a list without one of its items
pub none_removed : {X : Type 0} (p : X → Bool) (xs : List X) (i : ℕ) → list_any p xs ≡ false → list_any p (remove xs i) ≡ false
none_removed p [] zero e = refl
none_removed p [] (suc i) e = refl
none_removed p (x ∷ xs) zero e = (either (p x) (list_any p xs) e).1
none_removed p (x ∷ xs) (suc i) e =
    let parts = either (p x) (list_any p xs) e in
    no_other (p x) (list_any p (remove xs i)) parts.0 (none_removed p xs i parts.1)

-- an item that doesn't pass is taken out: the same is found
pub find_removed : {X : Type 0} (p : X → Bool) (xs : List X) (i : ℕ) (x : X) → slice_get xs i ≡ Some x → p x ≡ false → find p (remove xs i) ≡ find p xs
find_removed p [] zero x at e = refl
find_removed p [] (suc i) x at e = refl
find_removed p (y ∷ xs) zero x at e = let same : y ≡ x = cc in rw (same, e) refl
find_removed p (y ∷ xs) (suc i) x at e = ap (λ found. cond (p y) (Some y) found) (find_removed p xs i x at e)

-- an item that doesn't pass is added: the same is found
pub find_more : {X : Type 0} (p : X → Bool) (xs : List X) (y : X) → p y ≡ false → find p (xs ++ y ∷ []) ≡ find p xs
find_more p [] y e = rw e refl
find_more p (x ∷ xs) y e = ap (λ found. cond (p x) (Some x) found) (find_more p xs y e)

-- one that passes is added where none did: it is found
pub find_new : {X : Type 0} (p : X → Bool) (xs : List X) (y : X) → find p xs ≡ None → p y ≡ true → find p (xs ++ y ∷ []) ≡ Some y
find_new p xs y none e = rw (find-append p xs (y ∷ []), none, e) refl

-- where the first place is none, none is found
unplaced : {X : Type 0} (p : X → Bool) (xs : List X) (b : Bool) → nat_lt (position_or_len p xs) (length xs) ≡ b → cond b (Some (position_or_len p xs)) None ≡ None → find p xs ≡ None
unplaced p xs true is e = absurd (cc)
unplaced p xs false is e =
    let past : length xs ≤ position_or_len p xs = grind (arith, nat_tests) in
    find_at p xs ∙ slice_get_past xs (position_or_len p xs) past

pub find_unplaced : {X : Type 0} (p : X → Bool) (xs : List X) → position p xs ≡ None → find p xs ≡ None
find_unplaced p xs e = unplaced p xs _ refl e

-- what is found passes
pub find_passes : {X : Type 0} (p : X → Bool) (xs : List X) (x : X) → find p xs ≡ Some x → p x ≡ true
find_passes p [] x e = absurd (cc)
find_passes p (y ∷ xs) x e = elim (p y) as (λ b. p y ≡ b → cond b (Some y) (find p xs) ≡ Some x → p x ≡ true) [
  | true ↦ λ is found. let same : y ≡ x = cc in subst (λ z. p z ≡ true) same is
  | false ↦ λ is found. find_passes p xs x found
] refl e
