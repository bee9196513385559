-- The covers of a reader are one list.
use Rattle.std.proofs.Common.{◌≡◌, ℕ, ◌<◌, ◌≤◌, true, false, inl, inr, List, [], ◌∷◌, ◌++◌, map, Option, Some, None, refl, ap, sym, ◌∙◌, subst, arith, nat_eq, nat_lt}
use Rattle.std.specs.List.{All}
use Rattle.std.proofs.lemmas.Bool.{cases_Bool, cases_order}
use Rattle.std.proofs.lemmas.Bool.Decides.{nat_tests}
use Rattle.std.proofs.lemmas.Option.{none-some, same_Some}
use Rattle.std.proofs.lemmas.List.Elements.{All-head, All-tail, All-cons, All-nil}
use Rattle.plfs_types.specs.declared.entries.Cover.{Cover}
use Rattle.index_reader.specs.Found.{item_of}
use Rattle.index_reader.specs.Covered.{AreByWriter}
use Rattle.index_reader.specs.Gathered.{AreFirstOf}
use Rattle.gather_flow.specs.OneIndex.{with_cover, first_covers}

abbrev writer_in : Cover → ℕ
writer_in c = c.writer

-- the first cover of a writer
abbrev pub cover_in : ℕ → List Cover → Option Cover
cover_in writer covers = item_of (λ (c : Cover). c.writer) writer covers

abbrev Above : ℕ → List Cover → Type 0
Above n covers = All (λ later. n < later) (map (λ (c : Cover). c.writer) covers)

same_test : (a b : ℕ) → a ≡ b → nat_eq a b ≡ true
same_test a b e = grind (arith, nat_tests)

other_test : (a b : ℕ) → (a ≡ b → ⊥) → nat_eq a b ≡ false
other_test a b e = grind (arith, nat_tests)

less_test : (a b : ℕ) → a < b → nat_lt a b ≡ true
less_test a b e = grind (arith, nat_tests)

not_less_test : (a b : ℕ) → b ≤ a → nat_lt a b ≡ false
not_less_test a b e = grind (arith, nat_tests)

above_less : (n m : ℕ) (covers : List Cover) → n < m → Above m covers → Above n covers
above_less n m [] lt all = All-nil (λ later. n < later)
above_less n m (c ∷ covers) lt all =
    let here : m < c.writer = All-head (λ later. m < later) c.writer (map (λ (c : Cover). c.writer) covers) all in
    All-cons (λ later. n < later) c.writer (map (λ (c : Cover). c.writer) covers) (omega arith) (above_less n m covers lt (All-tail (λ later. m < later) c.writer (map (λ (c : Cover). c.writer) covers) all))

none_above : (n : ℕ) (covers : List Cover) → Above n covers → cover_in n covers ≡ None
none_above n [] all = refl
none_above n (c ∷ covers) all =
    let here : n < c.writer = All-head (λ later. n < later) c.writer (map (λ (c : Cover). c.writer) covers) all in
    let other : c.writer ≡ n → ⊥ = λ e. omega (arith, e) in
    rw (other_test c.writer n other) (none_above n covers (All-tail (λ later. n < later) c.writer (map (λ (c : Cover). c.writer) covers) all))

here_is : (c : Cover) (covers : List Cover) → cover_in c.writer (c ∷ covers) ≡ Some c
here_is c covers = rw (same_test c.writer c.writer refl) refl

not_here : (n : ℕ) (c : Cover) (covers : List Cover) → (c.writer ≡ n → ⊥) → cover_in n (c ∷ covers) ≡ cover_in n covers
not_here n c covers other = rw (other_test c.writer n other) refl

-- two ascending lists with the same cover of each writer are one
same_covers : (xs ys : List Cover) → AreByWriter xs → AreByWriter ys → ((n : ℕ) → cover_in n xs ≡ cover_in n ys) → xs ≡ ys
same_covers [] [] rise_x rise_y same = refl
same_covers [] (y ∷ ys) rise_x rise_y same = absurd (none-some y (same y.writer ∙ here_is y ys))
same_covers (x ∷ xs) [] rise_x rise_y same = absurd (none-some x (sym (same x.writer) ∙ here_is x xs))
same_covers (x ∷ xs) (y ∷ ys) rise_x rise_y same = elim (cases_order x.writer y.writer) [
  | inl one ↦
      let first : x ≡ y = same_Some x y (sym (here_is x xs) ∙ same x.writer ∙ ap (λ n. cover_in n (y ∷ ys)) one ∙ here_is y ys) in
      let rest : xs ≡ ys = same_covers xs ys rise_x.1 rise_y.1 (λ n. elim (cases_Bool (nat_eq x.writer n)) [
        | inl here ↦
            let e : x.writer ≡ n = grind (arith, nat_tests) in
            ap (λ m. cover_in m xs) (sym e) ∙ none_above x.writer xs rise_x.0 ∙ sym (none_above y.writer ys rise_y.0) ∙ ap (λ m. cover_in m ys) (sym one ∙ e)
        | inr there ↦
            let other : x.writer ≡ n → ⊥ = λ e. grind (arith, nat_tests) in
            let another : y.writer ≡ n → ⊥ = λ e. other (one ∙ e) in
            sym (not_here n x xs other) ∙ same n ∙ not_here n y ys another
      ]) in
      λ i. first i ∷ rest i
  | inr apart ↦ elim apart [
    | inl lower ↦
        let none : cover_in x.writer (y ∷ ys) ≡ None = none_above x.writer (y ∷ ys) (All-cons (λ later. x.writer < later) y.writer (map (λ (c : Cover). c.writer) ys) lower (above_less x.writer y.writer ys lower rise_y.0)) in
        absurd (none-some x (sym none ∙ sym (same x.writer) ∙ here_is x xs))
    | inr lower ↦
        let none : cover_in y.writer (x ∷ xs) ≡ None = none_above y.writer (x ∷ xs) (All-cons (λ later. y.writer < later) x.writer (map (λ (c : Cover). c.writer) xs) lower (above_less y.writer x.writer xs lower rise_x.0)) in
        absurd (none-some y (sym none ∙ same y.writer ∙ here_is y ys))
  ]
]

-- ---- one cover more

above_with : (n : ℕ) (c : Cover) (covers : List Cover) → n < c.writer → Above n covers → Above n (with_cover c covers)
above_with n c [] lt all = All-cons (λ later. n < later) c.writer [] lt (All-nil (λ later. n < later))
above_with n c (d ∷ covers) lt all =
    let tail = All-tail (λ later. n < later) d.writer (map (λ (c : Cover). c.writer) covers) all in
    let head : n < d.writer = All-head (λ later. n < later) d.writer (map (λ (c : Cover). c.writer) covers) all in
    elim (cases_order c.writer d.writer) [
      | inl one ↦ rw (not_less_test c.writer d.writer (omega arith), same_test c.writer d.writer one)
          (All-cons (λ later. n < later) c.writer (map (λ (c : Cover). c.writer) covers) lt tail)
      | inr apart ↦ elim apart [
        | inl lower ↦ rw (less_test c.writer d.writer lower)
            (All-cons (λ later. n < later) c.writer (map (λ (c : Cover). c.writer) (d ∷ covers)) lt all)
        | inr upper ↦ rw (not_less_test c.writer d.writer (omega arith), other_test c.writer d.writer (λ e. omega (arith, e, upper)))
            (All-cons (λ later. n < later) d.writer (map (λ (c : Cover). c.writer) (with_cover c covers)) head (above_with n c covers lt tail))
      ]
    ]

rises_with : (c : Cover) (covers : List Cover) → AreByWriter covers → AreByWriter (with_cover c covers)
rises_with c [] rise = (All-nil (λ later. c.writer < later), tt)
rises_with c (d ∷ covers) rise = elim (cases_order c.writer d.writer) [
  | inl one ↦ rw (not_less_test c.writer d.writer (omega arith), same_test c.writer d.writer one)
      (let e : d.writer ≡ c.writer = sym one in let P : ℕ → Type 0 = λ n. Above n covers in (subst P e rise.0, rise.1))
  | inr apart ↦ elim apart [
    | inl lower ↦ rw (less_test c.writer d.writer lower)
        (All-cons (λ later. c.writer < later) d.writer (map (λ (c : Cover). c.writer) covers) lower (above_less c.writer d.writer covers lower rise.0), rise)
    | inr upper ↦ rw (not_less_test c.writer d.writer (omega arith), other_test c.writer d.writer (λ e. omega (arith, e, upper)))
        (above_with d.writer c covers upper rise.0, rises_with c covers rise.1)
  ]
]

-- a cover of another writer may stand between
skips : (c d : Cover) (covers : List Cover) (n : ℕ) → nat_eq d.writer n ≡ false → cover_in n (c ∷ covers) ≡ cover_in n (c ∷ d ∷ covers)
skips c d covers n other = elim (cases_Bool (nat_eq c.writer n)) [
  | inl here ↦ rw here refl
  | inr there ↦ rw (there, other) refl
]

-- it is the cover of its writer, and the others are as before
with_is : (c : Cover) (covers : List Cover) (n : ℕ) → cover_in n (with_cover c covers) ≡ cover_in n (c ∷ covers)
with_is c [] n = refl
with_is c (d ∷ covers) n = elim (cases_order c.writer d.writer) [
  | inl one ↦ rw (not_less_test c.writer d.writer (omega arith), same_test c.writer d.writer one) (elim (cases_Bool (nat_eq c.writer n)) [
    | inl here ↦ rw here refl
    | inr there ↦
        let other : nat_eq d.writer n ≡ false = ap (λ w. nat_eq w n) (sym one) ∙ there in
        rw (there, other) refl
  ])
  | inr apart ↦ elim apart [
    | inl lower ↦ rw (less_test c.writer d.writer lower) refl
    | inr upper ↦ rw (not_less_test c.writer d.writer (omega arith), other_test c.writer d.writer (λ e. omega (arith, e, upper))) (elim (cases_Bool (nat_eq d.writer n)) [
      | inl here ↦
          let other : nat_eq c.writer n ≡ false = grind (arith, nat_tests) in
          rw (here, other) refl
      | inr there ↦ not_here n d (with_cover c covers) (λ e. grind (arith, nat_tests)) ∙ with_is c covers n ∙ skips c d covers n there
    ])
  ]
]

-- ---- the first covers

pub first_rise : (told : List Cover) → AreByWriter (first_covers told)
first_rise [] = tt
first_rise (c ∷ told) = rises_with c (first_covers told) (first_rise told)

pub first_is : (told : List Cover) (n : ℕ) → cover_in n (first_covers told) ≡ cover_in n told
first_is [] n = refl
first_is (c ∷ told) n = with_is c (first_covers told) n ∙ (elim (cases_Bool (nat_eq c.writer n)) [
  | inl here ↦ rw here refl
  | inr there ↦ rw there (first_is told n)
])

-- a cover of each writer that is told of is the first one
pub covers_are : (told covers : List Cover) → AreFirstOf told covers → covers ≡ first_covers told
covers_are told covers are = same_covers covers (first_covers told) are.ascend (first_rise told) (λ n. are.each n ∙ sym (first_is told n))

-- lists with the same cover of each writer have the same first covers
pub first_same : (told other : List Cover) → ((n : ℕ) → cover_in n told ≡ cover_in n other) → first_covers told ≡ first_covers other
first_same told other same =
    same_covers (first_covers told) (first_covers other) (first_rise told) (first_rise other) (λ n. first_is told n ∙ same n ∙ sym (first_is other n))

abbrev or_else : Option Cover → Option Cover → Option Cover
or_else None other = other
or_else (Some c) other = Some c

found_behind : (n : ℕ) (covers rest : List Cover) → cover_in n (covers ++ rest) ≡ or_else (cover_in n covers) (cover_in n rest)
found_behind n [] rest = refl
found_behind n (c ∷ covers) rest = elim (cases_Bool (nat_eq c.writer n)) [
  | inl here ↦ rw here refl
  | inr there ↦ rw there (found_behind n covers rest)
]

-- and so have they with the same covers behind them
pub same_behind : (told other rest : List Cover) → ((n : ℕ) → cover_in n told ≡ cover_in n other) → (n : ℕ) → cover_in n (told ++ rest) ≡ cover_in n (other ++ rest)
same_behind told other rest same n =
    found_behind n told rest ∙ ap (λ found. or_else found (cover_in n rest)) (same n) ∙ sym (found_behind n other rest)
