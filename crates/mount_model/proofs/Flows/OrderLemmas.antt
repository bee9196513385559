-- The one list in the order of a number that a stable sort gives.
use Rattle.std.proofs.Common.{◌≡◌, ℕ, suc, ◌<◌, ◌≤◌, inl, inr, nat_le, Bool, true, false, ◌&&◌, not, List, [], ◌∷◌, length, get_or, refl, ap, ◌∙◌, sym, subst, arith}
use Rattle.std.proofs.lemmas.Bool.{cases_lt, cases_Bool, cond-true, cond-false}
use Rattle.std.proofs.lemmas.Bool.Decides.{nat_tests}
use Rattle.std.specs.Ordering.{is_lt, nat_cmp}
use Rattle.std.specs.List.{filter}
use Rattle.std.specs.List.Sorted.{IsStableByKey, IsNonDecreasingBy}
use Rattle.mount_model.specs.Order.{put_by, ordered_by}

less : ℕ → ℕ → Bool
less a b = is_lt (nat_cmp a b)

-- neither is less
tied : ℕ → ℕ → Bool
tied a b = not (is_lt (nat_cmp a b)) && not (is_lt (nat_cmp b a))

tied_one : (a b : ℕ) → tied a b ≡ true → a ≡ b
unfolding tied
tied_one a b h = elim (cases_lt a b) [
  | inl below ↦ absurd (grind (arith, nat_tests))
  | inr above ↦ elim (cases_lt b a) [ inl over ↦ absurd (grind (arith, nat_tests)) | inr same ↦ omega arith ]
]

one_tied : (a b : ℕ) → a ≡ b → tied a b ≡ true
unfolding tied
one_tied a b e = grind (arith, nat_tests)

module _ {A : Type 0} (number : A → ℕ) where
  with_number : A → List A → List A
  with_number x xs = filter (λ y. tied (number x) (number y)) xs

  -- no number is less than this one
  abbrev AtLeast : ℕ → List A → Type 0
  AtLeast least [] = Unit {0}
  AtLeast least (x ∷ xs) = (least ≤ number x) × AtLeast least xs

  abbrev Rise : List A → Type 0
  Rise [] = Unit {0}
  Rise (x ∷ xs) = AtLeast (number x) xs × Rise xs

  at_least_less : (more least : ℕ) (xs : List A) → least ≤ more → AtLeast more xs → AtLeast least xs
  at_least_less more least [] l h = tt
  at_least_less more least (x ∷ xs) l h = (omega (arith, h.0), at_least_less more least xs l h.1)

  at_least_from : (least : ℕ) (xs : List A) → ((j : ℕ) (d : A) → j < length xs → least ≤ number (get_or xs j d)) → AtLeast least xs
  at_least_from least [] h = tt
  at_least_from least (x ∷ xs) h = (h 0 x (omega arith), at_least_from least xs (λ j d l. h (suc j) d (omega arith)))

  rise_from : (xs : List A) → IsNonDecreasingBy number xs → Rise xs
  rise_from [] h = tt
  rise_from (x ∷ xs) h = (at_least_from (number x) xs (λ j d l. h 0 (suc j) d (omega arith) (omega arith)), rise_from xs (λ i j d l m. h (suc i) (suc j) d (omega arith) (omega arith)))

  put_at_least : (least : ℕ) (a : A) (xs : List A) → least ≤ number a → AtLeast least xs → AtLeast least (put_by number a xs)
  put_at_least least a [] l h = (l, tt)
  put_at_least least a (x ∷ xs) l h = elim (cases_Bool (nat_le (number a) (number x))) [
    | inl first ↦ (let e : put_by number a (x ∷ xs) ≡ a ∷ x ∷ xs = cond-true (nat_le (number a) (number x)) (a ∷ x ∷ xs) (x ∷ put_by number a xs) first in subst (AtLeast least) (sym e) (l, h))
    | inr later ↦ (let e : put_by number a (x ∷ xs) ≡ x ∷ put_by number a xs = cond-false (nat_le (number a) (number x)) (a ∷ x ∷ xs) (x ∷ put_by number a xs) later in
        subst (AtLeast least) (sym e) (h.0, put_at_least least a xs l h.1))
  ]

  put_rises : (a : A) (xs : List A) → Rise xs → Rise (put_by number a xs)
  put_rises a [] h = (tt, tt)
  put_rises a (x ∷ xs) h = elim (cases_Bool (nat_le (number a) (number x))) [
    | inl first ↦ (let e : put_by number a (x ∷ xs) ≡ a ∷ x ∷ xs = cond-true (nat_le (number a) (number x)) (a ∷ x ∷ xs) (x ∷ put_by number a xs) first in
        let l : number a ≤ number x = grind (arith, nat_tests, first) in
        subst Rise (sym e) ((l, at_least_less (number x) (number a) xs l h.0), h))
    | inr later ↦ (let e : put_by number a (x ∷ xs) ≡ x ∷ put_by number a xs = cond-false (nat_le (number a) (number x)) (a ∷ x ∷ xs) (x ∷ put_by number a xs) later in
        let l : number x ≤ number a = grind (arith, nat_tests, later) in
        subst Rise (sym e) (put_at_least (number x) a xs l h.0, put_rises a xs h.1))
  ]

  pub ordered_rises : (xs : List A) → Rise (ordered_by number xs)
  ordered_rises [] = tt
  ordered_rises (x ∷ xs) = put_rises x (ordered_by number xs) (ordered_rises xs)

  keeps : (x y : A) (ys : List A) → tied (number x) (number y) ≡ true → with_number x (y ∷ ys) ≡ y ∷ with_number x ys
  unfolding with_number
  keeps x y ys h = cond-true (tied (number x) (number y)) (y ∷ with_number x ys) (with_number x ys) h

  drops : (x y : A) (ys : List A) → tied (number x) (number y) ≡ false → with_number x (y ∷ ys) ≡ with_number x ys
  unfolding with_number
  drops x y ys h = cond-false (tied (number x) (number y)) (y ∷ with_number x ys) (with_number x ys) h

  none_with : (x : A) → with_number x [] ≡ []
  unfolding with_number
  none_with x = refl

  -- what stands behind one item may be changed to what gives the same
  behind : (x y : A) (xs ys : List A) → with_number x xs ≡ with_number x ys → with_number x (y ∷ xs) ≡ with_number x (y ∷ ys)
  behind x y xs ys h = elim (cases_Bool (tied (number x) (number y))) [
    | inl same ↦ keeps x y xs same ∙ ap (λ zs. y ∷ zs) h ∙ sym (keeps x y ys same)
    | inr other ↦ drops x y xs other ∙ h ∙ sym (drops x y ys other)
  ]

  swapped : (x a b : A) (xs : List A) → number b < number a → with_number x (b ∷ a ∷ xs) ≡ with_number x (a ∷ b ∷ xs)
  swapped x a b xs l = elim (cases_Bool (tied (number x) (number a))) [
    | inl same_a ↦ elim (cases_Bool (tied (number x) (number b))) [
      | inl same_b ↦ absurd (omega (arith, l, tied_one (number x) (number a) same_a, tied_one (number x) (number b) same_b))
      | inr other_b ↦ drops x b (a ∷ xs) other_b ∙ behind x a xs (b ∷ xs) (sym (drops x b xs other_b))
    ]
    | inr other_a ↦ behind x b (a ∷ xs) xs (drops x a xs other_a) ∙ sym (drops x a (b ∷ xs) other_a)
  ]

  put_same : (x a : A) (xs : List A) → with_number x (put_by number a xs) ≡ with_number x (a ∷ xs)
  put_same x a [] = refl
  put_same x a (b ∷ bs) = elim (cases_Bool (nat_le (number a) (number b))) [
    | inl first ↦ ap (with_number x) (cond-true (nat_le (number a) (number b)) (a ∷ b ∷ bs) (b ∷ put_by number a bs) first)
    | inr later ↦ (let l : number b < number a = grind (arith, nat_tests, later) in
        ap (with_number x) (cond-false (nat_le (number a) (number b)) (a ∷ b ∷ bs) (b ∷ put_by number a bs) later)
        ∙ behind x b (put_by number a bs) (a ∷ bs) (put_same x a bs) ∙ swapped x a b bs l)
  ]

  ordered_same : (x : A) (xs : List A) → with_number x (ordered_by number xs) ≡ with_number x xs
  ordered_same x [] = refl
  ordered_same x (a ∷ xs) = put_same x a (ordered_by number xs) ∙ behind x a (ordered_by number xs) xs (ordered_same x xs)

  -- the least number is not above that of an item that is there
  first_least : (least : ℕ) (x z : A) (xs zs : List A) → AtLeast least xs → with_number x xs ≡ z ∷ zs → least ≤ number x
  first_least least x z [] zs h e = let clash : ◌≡◌ {A = List A} [] (z ∷ zs) = sym (none_with x) ∙ e in absurd cc
  first_least least x z (y ∷ ys) zs h e = elim (cases_Bool (tied (number x) (number y))) [
    | inl same ↦ omega (arith, h.0, tied_one (number x) (number y) same)
    | inr other ↦ first_least least x z ys zs h.1 (sym (drops x y ys other) ∙ e)
  ]

  head_of : A → List A → A
  head_of d [] = d
  head_of d (x ∷ xs) = x

  rest_of : List A → List A
  rest_of [] = []
  rest_of (x ∷ xs) = xs

  -- two lists in order with the same items of each number are one
  one_order : (xs ys : List A) → Rise xs → Rise ys → ((x : A) → with_number x xs ≡ with_number x ys) → xs ≡ ys
  unfolding head_of rest_of
  one_order [] [] h k same = refl
  one_order [] (y ∷ ys) h k same = let clash : ◌≡◌ {A = List A} [] (y ∷ with_number y ys) = sym (none_with y) ∙ same y ∙ keeps y y ys (one_tied (number y) (number y) refl) in absurd cc
  one_order (x ∷ xs) [] h k same = let clash : ◌≡◌ {A = List A} (x ∷ with_number x xs) [] = sym (keeps x x xs (one_tied (number x) (number x) refl)) ∙ same x ∙ none_with x in absurd cc
  one_order (x ∷ xs) (y ∷ ys) h k same =
      let mine : with_number x (x ∷ xs) ≡ x ∷ with_number x xs = keeps x x xs (one_tied (number x) (number x) refl) in
      let yours : with_number y (y ∷ ys) ≡ y ∷ with_number y ys = keeps y y ys (one_tied (number y) (number y) refl) in
      let up : number x ≤ number y = first_least (number x) y y (x ∷ xs) (with_number y ys) (omega arith, h.0) (same y ∙ yours) in
      let down : number y ≤ number x = first_least (number y) x x (y ∷ ys) (with_number x xs) (omega arith, k.0) (sym (same x) ∙ mine) in
      let one : number x ≡ number y = omega (arith, up, down) in
      let both : x ∷ with_number x xs ≡ y ∷ with_number x ys = sym mine ∙ same x ∙ keeps x y ys (one_tied (number x) (number y) one) in
      let heads : x ≡ y = ap (head_of x) both in
      let tails : xs ≡ ys = one_order xs ys h.1 k.1 (λ z. elim (cases_Bool (tied (number z) (number x))) [
        | inl with_it ↦ ap rest_of (sym (keeps z x xs with_it) ∙ same z ∙ keeps z y ys (subst (λ (w : A). tied (number z) (number w) ≡ true) heads with_it))
        | inr without ↦ sym (drops z x xs without) ∙ same z ∙ drops z y ys (subst (λ (w : A). tied (number z) (number w) ≡ false) heads without)
      ]) in
      ap (λ w. w ∷ xs) heads ∙ ap (λ zs. y ∷ zs) tails

  stable_with : (x : A) (xs ys : List A) → IsStableByKey number nat_cmp xs ys → with_number x ys ≡ with_number x xs
  unfolding with_number tied
  stable_with x xs ys h = h x

  -- what a stable sort gives
  pub ordered_by-is : (xs ys : List A) → IsNonDecreasingBy number ys → IsStableByKey number nat_cmp xs ys → ys ≡ ordered_by number xs
  ordered_by-is xs ys up stable = one_order ys (ordered_by number xs) (rise_from ys up) (ordered_rises xs) (λ x. stable_with x xs ys stable ∙ sym (ordered_same x xs))
