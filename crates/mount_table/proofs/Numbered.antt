-- Items by ascending number: where the one of a number stands, and what stays ascending.
use Rattle.std.proofs.Common.{◌≡◌, ℕ, zero, suc, ◌<◌, ◌≤◌, List, [], ◌∷◌, length, map, take, get_or, Option, Some, None, true, false, refl, ap, sym, ◌∙◌, subst, arith, nat_lt, nat_eq, ◌==◌, if◌then◌else◌}
use Rattle.std.specs.Prelude.{slice_get, slice_set, remove}
use Rattle.std.specs.List.{All, AllWithin}
use Rattle.std.specs.List.Sorted.{IsPartitionedBy}
use Rattle.std.proofs.lemmas.Bool.{ltb-true, ltb-false, lt-ltb}
use Rattle.std.proofs.lemmas.Bool.Decides.{nat_tests}
use Rattle.std.proofs.lemmas.Option.{none-some, same_Some}
use Rattle.std.proofs.lemmas.List.Elements.{All-head, All-tail, All-take}
use Rattle.mount_model.specs.Regular.{Ascend}
use Rattle.mount_model.proofs.Facts.{all-unmap}
use Rattle.plfs_types.specs.Places.{HasPassed}
use Rattle.mount_table.proofs.Rows.{same_test, other_test}

-- the first item of this number
abbrev pub item_of : {A : Type 0} → (A → ℕ) → ℕ → List A → Option A
item_of key n [] = None
item_of key n (x ∷ xs) = if key x == n then Some x else item_of key n xs

-- the items without the first one of this number
abbrev pub without : {A : Type 0} → (A → ℕ) → ℕ → List A → List A
without key n [] = []
without key n (x ∷ xs) = if key x == n then xs else x ∷ without key n xs

-- ---- the order of numbers

below_first : {A : Type 0} (key : A → ℕ) (n : ℕ) (xs : List A) → Ascend (map key xs) → (i j : ℕ) (d : A) → i ≤ j → j < length xs → nat_lt (key (get_or xs j d)) n ≡ true → nat_lt (key (get_or xs i d)) n ≡ true
below_first key n [] rises i j d le lt h = absurd (omega arith)
below_first key n (x ∷ xs) rises zero zero d le lt h = h
below_first key n (x ∷ xs) rises (suc i) zero d le lt h = absurd (omega arith)
below_first key n (x ∷ xs) rises zero (suc j) d le lt h =
    let above : key x < key (get_or xs j d) = all-unmap (λ later. key x < later) key xs rises.0 j d (omega arith) in
    lt-ltb (key x) n (omega (arith, ltb-true (key (get_or xs j d)) n h))
below_first key n (x ∷ xs) rises (suc i) (suc j) d le lt h = below_first key n xs rises.1 i j d (omega arith) (omega arith) h

-- the items of lesser numbers stand in front of the others
pub partitioned : {A : Type 0} (key : A → ℕ) (n : ℕ) (xs : List A) → Ascend (map key xs) → IsPartitionedBy (λ (x : A). nat_lt (key x) n) xs
partitioned key n xs rises = λ i j d le lt h. below_first key n xs rises i j d le lt h

pub passed : {A : Type 0} (key : A → ℕ) (n i : ℕ) (xs : List A) → i ≤ length xs → AllWithin (λ (x : A). nat_lt (key x) n ≡ true) xs 0 i → AllWithin (λ (x : A). nat_lt (key x) n ≡ false) xs i (length xs) → HasPassed key n i xs
passed key n zero [] le lesser others = tt
passed key n zero (x ∷ xs) le lesser others = ltb-false (key x) n (others 0 x (omega arith) (omega arith))
passed key n (suc i) [] le lesser others = tt
passed key n (suc i) (x ∷ xs) le lesser others = (
  ltb-true (key x) n (lesser 0 x (omega arith) (omega arith)),
  passed key n i xs (omega arith)
      (λ k d low high. lesser (suc k) d (omega arith) (omega arith))
      (λ k d low high. others (suc k) d (omega arith) (omega arith)),
)

-- ---- the item of a number

pub found : {A : Type 0} (key : A → ℕ) (n i : ℕ) (xs : List A) (x : A) → HasPassed key n i xs → slice_get xs i ≡ Some x → key x ≡ n → item_of key n xs ≡ Some x
found key n i [] x p stands is = absurd (none-some x stands)
found key n zero (y ∷ xs) x p stands is =
    let test : nat_eq (key y) n ≡ true = same_test (key y) n (ap key (same_Some y x stands) ∙ is) in
    rw test stands
found key n (suc i) (y ∷ xs) x p stands is =
    let other : key y ≡ n → ⊥ = λ e. omega (arith, e, p.0) in
    rw (other_test (key y) n other) (found key n i xs x p.1 stands is)

pub past_all : {A : Type 0} (key : A → ℕ) (n i : ℕ) (xs : List A) → HasPassed key n i xs → length xs ≤ i → item_of key n xs ≡ None
past_all key n i [] p le = refl
past_all key n zero (y ∷ xs) p le = absurd (omega arith)
past_all key n (suc i) (y ∷ xs) p le =
    let other : key y ≡ n → ⊥ = λ e. omega (arith, e, p.0) in
    rw (other_test (key y) n other) (past_all key n i xs p.1 (omega arith))

all_above : {A : Type 0} (key : A → ℕ) (n m : ℕ) (xs : List A) → n < m → All (λ later. m < later) (map key xs) → item_of key n xs ≡ None
all_above key n m [] lt all = refl
all_above key n m (y ∷ xs) lt all =
    let above : m < key y = All-head (λ later. m < later) (key y) (map key xs) all in
    let other : key y ≡ n → ⊥ = λ e. omega (arith, e) in
    rw (other_test (key y) n other) (all_above key n m xs lt (All-tail (λ later. m < later) (key y) (map key xs) all))

pub not_here : {A : Type 0} (key : A → ℕ) (n i : ℕ) (xs : List A) (x : A) → Ascend (map key xs) → HasPassed key n i xs → slice_get xs i ≡ Some x → (key x ≡ n → ⊥) → item_of key n xs ≡ None
not_here key n i [] x rises p stands differs = refl
not_here key n zero (y ∷ xs) x rises p stands differs =
    let other : key y ≡ n → ⊥ = λ e. differs (sym (ap key (same_Some y x stands)) ∙ e) in
    let above : n < key y = omega (arith, p, other) in
    rw (other_test (key y) n other) (all_above key n (key y) xs above rises.0)
not_here key n (suc i) (y ∷ xs) x rises p stands differs =
    let other : key y ≡ n → ⊥ = λ e. omega (arith, e, p.0) in
    rw (other_test (key y) n other) (not_here key n i xs x rises.1 p.1 stands differs)

-- the item at a place of the list, whatever is read past its end
stands_at : {A : Type 0} (xs : List A) (i : ℕ) (d : A) → i < length xs → slice_get xs i ≡ Some (get_or xs i d)
stands_at [] i d lt = absurd (omega arith)
stands_at (x ∷ xs) zero d lt = refl
stands_at (x ∷ xs) (suc i) d lt = stands_at xs i d (omega arith)

pub found_here : {A : Type 0} (key : A → ℕ) (n i : ℕ) (xs : List A) (d : A) → HasPassed key n i xs → i < length xs → key (get_or xs i d) ≡ n → slice_get xs i ≡ item_of key n xs
found_here key n i xs d p lt is =
    let stands = stands_at xs i d lt in
    stands ∙ sym (found key n i xs (get_or xs i d) p stands is)

pub other_here : {A : Type 0} (key : A → ℕ) (n i : ℕ) (xs : List A) (d : A) → Ascend (map key xs) → HasPassed key n i xs → i < length xs → (key (get_or xs i d) ≡ n → ⊥) → item_of key n xs ≡ None
other_here key n i xs d rises p lt differs = not_here key n i xs (get_or xs i d) rises p (stands_at xs i d lt) differs

-- it has the number
pub of_number : {A : Type 0} (key : A → ℕ) (n : ℕ) (xs : List A) (x : A) → item_of key n xs ≡ Some x → key x ≡ n
of_number key n [] x e = absurd (none-some x e)
of_number {A} key n (y ∷ xs) x e = elim (nat_eq (key y) n) as (λ b. nat_eq (key y) n ≡ b → (if b then Some y else item_of key n xs) ≡ Some x → key x ≡ n) [
  | true ↦ λ t f. let same : y ≡ x = same_Some y x f in let is : key y ≡ n = grind (arith, nat_tests) in subst (λ (z : A). key z ≡ n) same is
  | false ↦ λ t f. of_number key n xs x f
] refl e

-- ---- one is taken out

pub without_none : {A : Type 0} (key : A → ℕ) (n : ℕ) (xs : List A) → item_of key n xs ≡ None → without key n xs ≡ xs
without_none key n [] e = refl
without_none {A} key n (y ∷ xs) e = elim (nat_eq (key y) n) as (λ b. (if b then Some y else item_of key n xs) ≡ None → (if b then xs else y ∷ without key n xs) ≡ y ∷ xs) [
  | true ↦ λ f. absurd (none-some y (sym f))
  | false ↦ λ f. ap (λ (l : List A). y ∷ l) (without_none key n xs f)
] e

pub at_map : {A : Type 0} (key : A → ℕ) (P : ℕ → Type 0) (i : ℕ) (xs : List A) (x : A) → All P (map key xs) → slice_get xs i ≡ Some x → P (key x)
at_map key P i [] x all stands = absurd (none-some x stands)
at_map key P zero (y ∷ xs) x all stands = subst P (ap key (same_Some y x stands)) (All-head P (key y) (map key xs) all)
at_map key P (suc i) (y ∷ xs) x all stands = at_map key P i xs x (All-tail P (key y) (map key xs) all) stands

pub without_at : {A : Type 0} (key : A → ℕ) (i : ℕ) (xs : List A) (x : A) → Ascend (map key xs) → slice_get xs i ≡ Some x → without key (key x) xs ≡ remove xs i
without_at key i [] x rises stands = absurd (none-some x stands)
without_at key zero (y ∷ xs) x rises stands =
    let test : nat_eq (key y) (key x) ≡ true = same_test (key y) (key x) (ap key (same_Some y x stands)) in
    rw test refl
without_at {A} key (suc i) (y ∷ xs) x rises stands =
    let above : key y < key x = at_map key (λ later. key y < later) i xs x rises.0 stands in
    let other : key y ≡ key x → ⊥ = λ e. omega (arith, e, above) in
    rw (other_test (key y) (key x) other) (ap (λ (l : List A). y ∷ l) (without_at key i xs x rises.1 stands))

-- the same where the number was searched for
pub without_found : {A : Type 0} (key : A → ℕ) (n i : ℕ) (xs : List A) (o : Option A) → Ascend (map key xs) → slice_get xs i ≡ item_of key n xs → i < length xs → without key n xs ≡ remove xs i
without_found {A} key n i xs o rises is lt = by_case (slice_get xs i) refl
  where
    by_case : (o : Option A) → slice_get xs i ≡ o → without key n xs ≡ remove xs i
    by_case None e = absurd (stands_none xs i lt e)
      where
        stands_none : (ys : List A) (k : ℕ) → k < length ys → slice_get ys k ≡ None → ⊥
        stands_none [] k less f = omega arith
        stands_none (y ∷ ys) zero less f = none-some y (sym f)
        stands_none (y ∷ ys) (suc k) less f = stands_none ys k (omega arith) f
    by_case (Some x) e =
        let same : key x ≡ n = of_number key n xs x (sym is ∙ e) in
        ap (λ m. without key m xs) (sym same) ∙ without_at key i xs x rises e

-- ---- the list is shorter

pub ascend_take : (n : ℕ) (numbers : List ℕ) → Ascend numbers → Ascend (take n numbers)
ascend_take zero numbers rises = tt
ascend_take (suc n) [] rises = tt
ascend_take (suc n) (number ∷ numbers) rises = (All-take (λ later. number < later) n numbers rises.0, ascend_take n numbers rises.1)

-- ---- one is replaced

pub map_replaced : {A : Type 0} (f : A → ℕ) (i : ℕ) (xs : List A) (x new : A) → slice_get xs i ≡ Some x → f new ≡ f x → map f (slice_set xs i new) ≡ map f xs
map_replaced f i [] x new stands same = absurd (none-some x stands)
map_replaced f zero (y ∷ xs) x new stands same = ap (λ n. n ∷ map f xs) (same ∙ sym (ap f (same_Some y x stands)))
map_replaced f (suc i) (y ∷ xs) x new stands same = ap (λ (l : List ℕ). f y ∷ l) (map_replaced f i xs x new stands same)
