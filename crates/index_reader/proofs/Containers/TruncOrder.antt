-- Truncates that are put in their places one by one are those that a sort gives.
use Rattle.std.proofs.Common.{◌≡◌, ℕ, suc, ◌+◌, ◌<◌, ◌≤◌, nat_eq, nat_le, nat_lt, if◌then◌else◌, true, false, List, [], ◌∷◌, ◌++◌, take, drop, Some, None, Result, Ok, Err, refl, ap, sym, ◌∙◌, ◌⊎◌, inl, inr, subst, arith}
use Rattle.std.specs.List.{AllByRecursion}
use Rattle.std.proofs.lemmas.Bool.{cases_eq, cases_lt, cond-true, cond-false}
use Rattle.std.proofs.lemmas.Bool.Decides.{nat_tests}
use Rattle.plfs_types.specs.declared.entries.Trunc.{Trunc}
use Rattle.mount_model.specs.Order.{ordered_by, put_by, truncs_by_stamp}
use Rattle.mount_model.specs.declared.stuck.Stuck.{Stuck}
use Rattle.mount_model.specs.Paths.{Name}
use Rattle.mount_model.specs.Names.{trunc_in}
use Rattle.index_reader.specs.Truncs.{if_trunc, inserted, is_before, place_of, truncs_listed, truncs_of}

-- ---- one in its place

pub put_first : (t u : Trunc) (us : List Trunc) → is_before t u ≡ true → inserted t (u ∷ us) ≡ t ∷ u ∷ us
put_first t u us h = ap (λ n. take n (u ∷ us) ++ t ∷ drop n (u ∷ us)) (cond-true (is_before t u) 0 (1 + place_of t us) h)

one_on : (n : ℕ) → 1 + n ≡ suc n
one_on n = omega arith

pub put_later : (t u : Trunc) (us : List Trunc) → is_before t u ≡ false → inserted t (u ∷ us) ≡ u ∷ inserted t us
put_later t u us h = ap (λ n. take n (u ∷ us) ++ t ∷ drop n (u ∷ us)) (cond-false (is_before t u) 0 (1 + place_of t us) h ∙ one_on (place_of t us))

-- ---- which of two comes first

abbrev Before : Trunc → Trunc → Type 0
Before t u = (t.stamp < u.stamp) ⊎ ((t.stamp ≡ u.stamp) × (t.size < u.size))

abbrev NotBefore : Trunc → Trunc → Type 0
NotBefore t u = (u.stamp < t.stamp) ⊎ ((u.stamp ≡ t.stamp) × (u.size ≤ t.size))

less : (a b : ℕ) → a < b → nat_lt a b ≡ true
less a b l = grind (arith, nat_tests)

not_less : (a b : ℕ) → b ≤ a → nat_lt a b ≡ false
not_less a b l = grind (arith, nat_tests)

equal : (a b : ℕ) → a ≡ b → nat_eq a b ≡ true
equal a b e = grind (arith, nat_tests)

unequal : (a b : ℕ) → (a ≡ b → ⊥) → nat_eq a b ≡ false
unequal a b other = grind (arith, nat_tests)

is_true : (t u : Trunc) → Before t u → is_before t u ≡ true
is_true t u (inl l) = cond-false (nat_eq t.stamp u.stamp) (nat_lt t.size u.size) (nat_lt t.stamp u.stamp) (unequal t.stamp u.stamp (λ e. omega (arith, e, l))) ∙ less t.stamp u.stamp l
is_true t u (inr (e, l)) = cond-true (nat_eq t.stamp u.stamp) (nat_lt t.size u.size) (nat_lt t.stamp u.stamp) (equal t.stamp u.stamp e) ∙ less t.size u.size l

is_false : (t u : Trunc) → NotBefore t u → is_before t u ≡ false
is_false t u (inl l) = cond-false (nat_eq t.stamp u.stamp) (nat_lt t.size u.size) (nat_lt t.stamp u.stamp) (unequal t.stamp u.stamp (λ e. omega (arith, e, l))) ∙ not_less t.stamp u.stamp (omega (arith, l))
is_false t u (inr (e, l)) = cond-true (nat_eq t.stamp u.stamp) (nat_lt t.size u.size) (nat_lt t.stamp u.stamp) (equal t.stamp u.stamp (sym e)) ∙ not_less t.size u.size l

decided : (t u : Trunc) → Before t u ⊎ NotBefore t u
decided t u = elim (cases_lt t.stamp u.stamp) as (λ _. Before t u ⊎ NotBefore t u) [
  | inl l ↦ inl (inl l)
  | inr least ↦ elim (cases_eq t.stamp u.stamp) as (λ _. Before t u ⊎ NotBefore t u) [
    | inl e ↦ elim (cases_lt t.size u.size) as (λ _. Before t u ⊎ NotBefore t u) [
      | inl l ↦ inl (inr (e, l))
      | inr l ↦ inr (inr (sym e, l))
    ]
    | inr other ↦ inr (inl (omega (arith, least, other)))
  ]
]

-- one that comes before another doesn't come after it
apart : (t u : Trunc) → Before t u → NotBefore u t
apart t u (inl l) = inl l
apart t u (inr (e, l)) = inr (e, omega (arith, l))

-- one that comes before what another doesn't come before is before that
between : (t u v : Trunc) → Before t v → NotBefore u v → NotBefore u t
between t u v (inl a) (inl b) = inl (omega (arith, a, b))
between t u v (inl a) (inr b) = inl (omega (arith, a, b.0))
between t u v (inr a) (inl b) = inl (omega (arith, a.0, b))
between t u v (inr a) (inr b) = inr (a.0 ∙ b.0, omega (arith, a.1, b.1))

same_trunc : (t u : Trunc) → t.stamp ≡ u.stamp → t.size ≡ u.size → t ≡ u
same_trunc t u p q = λ i. record { stamp = p i; size = q i }

-- two of which neither comes first are one
neither : (t u : Trunc) → NotBefore t u → NotBefore u t → t ≡ u
neither t u (inl a) (inl b) = absurd (omega (arith, a, b))
neither t u (inl a) (inr b) = absurd (omega (arith, a, b.0))
neither t u (inr a) (inl b) = absurd (omega (arith, a.0, b))
neither t u (inr a) (inr b) = same_trunc t u b.0 (omega (arith, a.1, b.1))

-- ---- two in their places

-- two that come before all others
two : (t u : Trunc) (us : List Trunc) → inserted t us ≡ t ∷ us → inserted u us ≡ u ∷ us → inserted t (u ∷ us) ≡ inserted u (t ∷ us)
two t u us p q = elim (decided t u) as (λ _. inserted t (u ∷ us) ≡ inserted u (t ∷ us)) [
  | inl b ↦ put_first t u us (is_true t u b) ∙ ap (λ l. t ∷ l) (sym q) ∙ sym (put_later u t us (is_false u t (apart t u b)))
  | inr n ↦ elim (decided u t) as (λ _. inserted t (u ∷ us) ≡ inserted u (t ∷ us)) [
    | inl b ↦ put_later t u us (is_false t u n) ∙ ap (λ l. u ∷ l) p ∙ sym (put_first u t us (is_true u t b))
    | inr m ↦ (let one : t ≡ u = neither t u n m in λ i. inserted (one i) (sym one i ∷ us))
  ]
]

-- the first comes before the next of the others, the second doesn't
one_before : (t u v : Trunc) (vs : List Trunc) → Before t v → NotBefore u v → inserted t (inserted u (v ∷ vs)) ≡ inserted u (inserted t (v ∷ vs))
one_before t u v vs b n =
    let past : inserted u (v ∷ vs) ≡ v ∷ inserted u vs = put_later u v vs (is_false u v n) in
    ap (inserted t) past ∙ put_first t v (inserted u vs) (is_true t v b)
    ∙ ap (λ l. t ∷ l) (sym past) ∙ sym (put_later u t (v ∷ vs) (is_false u t (between t u v b n))) ∙ ap (inserted u) (sym (put_first t v vs (is_true t v b)))

-- In whatever order they are put in their places.
commute : (t u : Trunc) (us : List Trunc) → inserted t (inserted u us) ≡ inserted u (inserted t us)
commute t u [] = two t u [] refl refl
commute t u (v ∷ vs) = elim (decided t v) as (λ _. inserted t (inserted u (v ∷ vs)) ≡ inserted u (inserted t (v ∷ vs))) [
  | inl b ↦ elim (decided u v) as (λ _. inserted t (inserted u (v ∷ vs)) ≡ inserted u (inserted t (v ∷ vs))) [
    | inl c ↦ (let p = put_first t v vs (is_true t v b) in let q = put_first u v vs (is_true u v c) in ap (inserted t) q ∙ two t u (v ∷ vs) p q ∙ ap (inserted u) (sym p))
    | inr n ↦ one_before t u v vs b n
  ]
  | inr m ↦ elim (decided u v) as (λ _. inserted t (inserted u (v ∷ vs)) ≡ inserted u (inserted t (v ∷ vs))) [
    | inl c ↦ sym (one_before u t v vs c m)
    | inr n ↦
        ap (inserted t) (put_later u v vs (is_false u v n)) ∙ put_later t v (inserted u vs) (is_false t v m)
        ∙ ap (λ l. v ∷ l) (commute t u vs)
        ∙ sym (put_later u v (inserted t vs) (is_false u v n)) ∙ ap (inserted u) (sym (put_later t v vs (is_false t v m)))
  ]
]

-- each put in its place
abbrev pub all_inserted : List Trunc → List Trunc
all_inserted [] = []
all_inserted (t ∷ ts) = inserted t (all_inserted ts)

-- the last one last
pub inserted_last : (ts : List Trunc) (t : Trunc) → all_inserted (ts ++ t ∷ []) ≡ inserted t (all_inserted ts)
inserted_last [] t = refl
inserted_last (u ∷ ts) t = ap (inserted u) (inserted_last ts t) ∙ commute u t (all_inserted ts)

-- ---- lists in order

module _ (number : Trunc → ℕ) where
  -- no number is less than this one
  abbrev AtLeast : ℕ → List Trunc → Type 0
  AtLeast least ts = AllByRecursion (λ (t : Trunc). least ≤ number t) ts

  abbrev Rise : List Trunc → Type 0
  Rise [] = Unit {0}
  Rise (t ∷ ts) = AtLeast (number t) ts × Rise ts

  lower : (more least : ℕ) (ts : List Trunc) → least ≤ more → AtLeast more ts → AtLeast least ts
  lower more least [] l h = tt
  lower more least (t ∷ ts) l h = (omega (arith, l, h.0), lower more least ts l h.1)

  put_all : (P : Trunc → Type 0) (a : Trunc) (ts : List Trunc) → P a → AllByRecursion P ts → AllByRecursion P (put_by number a ts)
  put_all P a [] p all = (p, tt)
  put_all P a (t ∷ ts) p all = elim (nat_le (number a) (number t)) as (λ b. AllByRecursion P (if b then a ∷ t ∷ ts else t ∷ put_by number a ts)) [
    | true ↦ (p, all)
    | false ↦ (all.0, put_all P a ts p all.1)
  ]

  ordered_all : (P : Trunc → Type 0) (ts : List Trunc) → AllByRecursion P ts → AllByRecursion P (ordered_by number ts)
  ordered_all P [] all = tt
  ordered_all P (t ∷ ts) all = put_all P t (ordered_by number ts) all.0 (ordered_all P ts all.1)

  put_here : (a t : Trunc) (ts : List Trunc) → number a ≤ number t → put_by number a (t ∷ ts) ≡ a ∷ t ∷ ts
  put_here a t ts l = cond-true (nat_le (number a) (number t)) (a ∷ t ∷ ts) (t ∷ put_by number a ts) (first (number a) (number t) l)
    where
      first : (x y : ℕ) → x ≤ y → nat_le x y ≡ true
      first x y m = grind (arith, nat_tests)

  put_on : (a t : Trunc) (ts : List Trunc) → number t < number a → put_by number a (t ∷ ts) ≡ t ∷ put_by number a ts
  put_on a t ts l = cond-false (nat_le (number a) (number t)) (a ∷ t ∷ ts) (t ∷ put_by number a ts) (later (number a) (number t) l)
    where
      later : (x y : ℕ) → y < x → nat_le x y ≡ false
      later x y m = grind (arith, nat_tests)

  put_rises : (a : Trunc) (ts : List Trunc) → Rise ts → Rise (put_by number a ts)
  put_rises a [] h = (tt, tt)
  put_rises a (t ∷ ts) h = elim (cases_lt (number t) (number a)) as (λ _. Rise (put_by number a (t ∷ ts))) [
    | inl later ↦ subst Rise (sym (put_on a t ts later)) (put_all (λ (u : Trunc). number t ≤ number u) a ts (omega (arith, later)) h.0, put_rises a ts h.1)
    | inr first ↦ subst Rise (sym (put_here a t ts first)) ((first, lower (number t) (number a) ts first h.0), h)
  ]

  ordered_rises : (ts : List Trunc) → Rise (ordered_by number ts)
  ordered_rises [] = tt
  ordered_rises (t ∷ ts) = put_rises t (ordered_by number ts) (ordered_rises ts)

abbrev stamp_of : Trunc → ℕ
stamp_of t = t.stamp

abbrev size_of : Trunc → ℕ
size_of t = t.size

-- before all stamps that are no less
front : (a : Trunc) (ts : List Trunc) → AtLeast stamp_of a.stamp ts → put_by stamp_of a ts ≡ a ∷ ts
front a [] least = refl
front a (t ∷ ts) least = put_here stamp_of a t ts least.0

from_here : (a t : Trunc) (ts : List Trunc) → Rise stamp_of (t ∷ ts) → a.size ≤ t.size → a.stamp ≤ t.stamp → put_by stamp_of a ts ≡ inserted a ts → Before a t ⊎ NotBefore a t → a ∷ t ∷ ts ≡ inserted a (t ∷ ts)
from_here a t ts rise least first so (inl b) = sym (put_first a t ts (is_true a t b))
from_here a t ts rise least first so (inr (inl over)) = absurd (omega (arith, first, over))
from_here a t ts rise least first so (inr (inr tie)) =
    let one : a ≡ t = same_trunc a t (sym tie.0) (omega (arith, tie.1, least)) in
    let rest : a ∷ ts ≡ inserted a ts = sym (front a ts (lower stamp_of t.stamp a.stamp ts first rise.0)) ∙ so in
    (λ i. one i ∷ sym one i ∷ ts) ∙ ap (λ l. t ∷ l) rest ∙ sym (put_later a t ts (is_false a t (inr tie)))

-- among sizes that are no less, one is put by its stamp alone
by_stamp : (a : Trunc) (ts : List Trunc) → Rise stamp_of ts → AtLeast size_of a.size ts → put_by stamp_of a ts ≡ inserted a ts
by_stamp a [] rise least = refl
by_stamp a (t ∷ ts) rise least = elim (cases_lt t.stamp a.stamp) as (λ _. put_by stamp_of a (t ∷ ts) ≡ inserted a (t ∷ ts)) [
  | inl later ↦ put_on stamp_of a t ts later ∙ ap (λ l. t ∷ l) (by_stamp a ts rise.1 least.1) ∙ sym (put_later a t ts (is_false a t (inl later)))
  | inr first ↦ put_here stamp_of a t ts first ∙ from_here a t ts rise least.0 first (by_stamp a ts rise.1 least.1) (decided a t)
]

-- one more by its size, and then all by their stamps
by_size : (a : Trunc) (ts : List Trunc) → Rise size_of ts → ordered_by stamp_of (put_by size_of a ts) ≡ inserted a (ordered_by stamp_of ts)
by_size a [] rise = refl
by_size a (t ∷ ts) rise = elim (cases_lt t.size a.size) as (λ _. ordered_by stamp_of (put_by size_of a (t ∷ ts)) ≡ inserted a (ordered_by stamp_of (t ∷ ts))) [
  | inr first ↦
      ap (ordered_by stamp_of) (put_here size_of a t ts first)
      ∙ by_stamp a (ordered_by stamp_of (t ∷ ts)) (ordered_rises stamp_of (t ∷ ts)) (ordered_all stamp_of (λ (u : Trunc). a.size ≤ u.size) (t ∷ ts) (first, lower size_of t.size a.size ts first rise.0))
  | inl later ↦
      let before : List Trunc = ordered_by stamp_of ts in
      let so : ordered_by stamp_of (put_by size_of a ts) ≡ inserted a before = by_size a ts rise.1 in
      let all = ordered_all stamp_of (λ (u : Trunc). t.size ≤ u.size) (put_by size_of a ts) (put_all size_of (λ (u : Trunc). t.size ≤ u.size) a ts (omega (arith, later)) rise.0) in
      ap (ordered_by stamp_of) (put_on size_of a t ts later)
      ∙ by_stamp t (ordered_by stamp_of (put_by size_of a ts)) (ordered_rises stamp_of (put_by size_of a ts)) all
      ∙ ap (inserted t) so ∙ commute t a before
      ∙ ap (inserted a) (sym (by_stamp t before (ordered_rises stamp_of ts) (ordered_all stamp_of (λ (u : Trunc). t.size ≤ u.size) ts rise.0)))
]

-- A sort gives them as they are when each is put in its place.
pub sorted_so : (ts : List Trunc) → truncs_by_stamp ts ≡ all_inserted ts
sorted_so [] = refl
sorted_so (t ∷ ts) = by_size t (ordered_by size_of ts) (ordered_rises size_of ts) ∙ ap (inserted t) (sorted_so ts)

abbrev sorted : Result (List Trunc) Stuck → Result (List Trunc) Stuck
sorted (Ok ts) = Ok (truncs_by_stamp ts)
sorted (Err because) = Err because

sorted_behind : (names : List Name) (sofar : List Trunc) → sorted (truncs_listed names sofar) ≡ truncs_of names (all_inserted sofar)
sorted_behind [] sofar = ap Ok (sorted_so sofar)
sorted_behind (name ∷ names) sofar = elim (trunc_in name) as (λ found. sorted (if_trunc name found (λ t. truncs_listed names (sofar ++ t ∷ []))) ≡ if_trunc name found (λ t. truncs_of names (inserted t (all_inserted sofar)))) [
  | None ↦ refl
  | Some t ↦ sorted_behind names (sofar ++ t ∷ []) ∙ ap (truncs_of names) (inserted_last sofar t)
]

-- Listed and then sorted, they are in order.
pub listed_sorted : (names : List Name) (ts : List Trunc) → truncs_listed names [] ≡ Ok ts → truncs_of names [] ≡ Ok (truncs_by_stamp ts)
listed_sorted names ts listed = sym (sorted_behind names []) ∙ ap sorted listed

pub listed_none : (names : List Name) (because : Stuck) → truncs_listed names [] ≡ Err because → truncs_of names [] ≡ Err because
listed_none names because listed = sym (sorted_behind names []) ∙ ap sorted listed
