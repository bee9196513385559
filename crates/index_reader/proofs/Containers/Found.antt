-- Items by ascending number: where the one of a number stands.
use Rattle.std.proofs.Common.{◌≡◌, ℕ, zero, suc, ◌<◌, ◌≤◌, List, [], ◌∷◌, length, map, get_or, Some, None, true, false, refl, ap, sym, ◌∙◌, arith, nat_lt, nat_eq}
use Rattle.std.specs.Prelude.{slice_get}
use Rattle.std.specs.List.{All, AllWithin}
use Rattle.std.specs.List.Sorted.{IsPartitionedBy}
use Rattle.std.proofs.lemmas.Bool.{ltb-true, ltb-false, lt-ltb}
use Rattle.std.proofs.lemmas.Bool.Decides.{nat_tests}
use Rattle.std.proofs.lemmas.Option.{none-some, same_Some}
use Rattle.std.proofs.lemmas.List.Elements.{All-head, All-tail}
use Rattle.mount_model.specs.Regular.{Ascend}
use Rattle.mount_model.proofs.Facts.{all-unmap}
use Rattle.index_reader.specs.Found.{item_of}
use Rattle.plfs_types.specs.Places.{HasPassed}

same_test : (a b : ℕ) → a ≡ b → nat_eq a b ≡ true
same_test a b e = grind (arith, nat_tests)

other_test : (a b : ℕ) → (a ≡ b → ⊥) → nat_eq a b ≡ false
other_test a b e = grind (arith, nat_tests)

-- ---- the order of numbers

below_first : {A : Type 0} (key : A → ℕ) (n : ℕ) (xs : List A) → Ascend (map key xs) → (i j : ℕ) (d : A) → i ≤ j → j < length xs → nat_lt (key (get_or xs j d)) n ≡ true → nat_lt (key (get_or xs i d)) n ≡ true
below_first key n [] rises i j d le lt h = absurd (omega arith)
below_first key n (x ∷ xs) rises zero zero d le lt h = h
below_first key n (x ∷ xs) rises (suc i) zero d le lt h = absurd (omega arith)
below_first key n (x ∷ xs) rises zero (suc j) d le lt h =
    let above : key x < key (get_or xs j d) = all-unmap (λ later. key x < later) key xs rises.0 j d (omega arith) in
    lt-ltb (key x) n (omega (arith, ltb-true (key (get_or xs j d)) n h))
below_first key n (x ∷ xs) rises (suc i) (suc j) d le lt h = below_first key n xs rises.1 i j d (omega arith) (omega arith) h

-- the items of lesser numbers stand in front of the others
pub partitioned : {A : Type 0} (key : A → ℕ) (n : ℕ) (xs : List A) → Ascend (map key xs) → IsPartitionedBy (λ (x : A). nat_lt (key x) n) xs
partitioned key n xs rises = λ i j d le lt h. below_first key n xs rises i j d le lt h

pub passed : {A : Type 0} (key : A → ℕ) (n i : ℕ) (xs : List A) → i ≤ length xs → AllWithin (λ (x : A). nat_lt (key x) n ≡ true) xs 0 i → AllWithin (λ (x : A). nat_lt (key x) n ≡ false) xs i (length xs) → HasPassed key n i xs
passed key n zero [] le lesser others = tt
passed key n zero (x ∷ xs) le lesser others = ltb-false (key x) n (others 0 x (omega arith) (omega arith))
passed key n (suc i) [] le lesser others = tt
passed key n (suc i) (x ∷ xs) le lesser others = (
  ltb-true (key x) n (lesser 0 x (omega arith) (omega arith)),
  passed key n i xs (omega arith)
      (λ k d low high. lesser (suc k) d (omega arith) (omega arith))
      (λ k d low high. others (suc k) d (omega arith) (omega arith)),
)

-- ---- the item of a number

pub found : {A : Type 0} (key : A → ℕ) (n i : ℕ) (xs : List A) (x : A) → HasPassed key n i xs → slice_get xs i ≡ Some x → key x ≡ n → item_of key n xs ≡ Some x
found key n i [] x p stands is = absurd (none-some x stands)
found key n zero (y ∷ xs) x p stands is =
    let test : nat_eq (key y) n ≡ true = same_test (key y) n (ap key (same_Some y x stands) ∙ is) in
    rw test stands
found key n (suc i) (y ∷ xs) x p stands is =
    let other : key y ≡ n → ⊥ = λ e. omega (arith, e, p.0) in
    rw (other_test (key y) n other) (found key n i xs x p.1 stands is)

pub past_all : {A : Type 0} (key : A → ℕ) (n i : ℕ) (xs : List A) → HasPassed key n i xs → length xs ≤ i → item_of key n xs ≡ None
past_all key n i [] p le = refl
past_all key n zero (y ∷ xs) p le = absurd (omega arith)
past_all key n (suc i) (y ∷ xs) p le =
    let other : key y ≡ n → ⊥ = λ e. omega (arith, e, p.0) in
    rw (other_test (key y) n other) (past_all key n i xs p.1 (omega arith))

all_above : {A : Type 0} (key : A → ℕ) (n m : ℕ) (xs : List A) → n < m → All (λ later. m < later) (map key xs) → item_of key n xs ≡ None
all_above key n m [] lt all = refl
all_above key n m (y ∷ xs) lt all =
    let above : m < key y = All-head (λ later. m < later) (key y) (map key xs) all in
    let other : key y ≡ n → ⊥ = λ e. omega (arith, e) in
    rw (other_test (key y) n other) (all_above key n m xs lt (All-tail (λ later. m < later) (key y) (map key xs) all))

pub not_here : {A : Type 0} (key : A → ℕ) (n i : ℕ) (xs : List A) (x : A) → Ascend (map key xs) → HasPassed key n i xs → slice_get xs i ≡ Some x → (key x ≡ n → ⊥) → item_of key n xs ≡ None
not_here key n i [] x rises p stands differs = refl
not_here key n zero (y ∷ xs) x rises p stands differs =
    let other : key y ≡ n → ⊥ = λ e. differs (sym (ap key (same_Some y x stands)) ∙ e) in
    let above : n < key y = omega (arith, p, other) in
    rw (other_test (key y) n other) (all_above key n (key y) xs above rises.0)
not_here key n (suc i) (y ∷ xs) x rises p stands differs =
    let other : key y ≡ n → ⊥ = λ e. omega (arith, e, p.0) in
    rw (other_test (key y) n other) (not_here key n i xs x rises.1 p.1 stands differs)

-- the item at a place of the list, whatever is read past its end
stands_at : {A : Type 0} (xs : List A) (i : ℕ) (d : A) → i < length xs → slice_get xs i ≡ Some (get_or xs i d)
stands_at [] i d lt = absurd (omega arith)
stands_at (x ∷ xs) zero d lt = refl
stands_at (x ∷ xs) (suc i) d lt = stands_at xs i d (omega arith)

pub found_at : {A : Type 0} (key : A → ℕ) (n i : ℕ) (xs : List A) (d : A) → HasPassed key n i xs → i < length xs → key (get_or xs i d) ≡ n → item_of key n xs ≡ Some (get_or xs i d)
found_at key n i xs d p lt is = found key n i xs (get_or xs i d) p (stands_at xs i d lt) is

pub other_here : {A : Type 0} (key : A → ℕ) (n i : ℕ) (xs : List A) (d : A) → Ascend (map key xs) → HasPassed key n i xs → i < length xs → (key (get_or xs i d) ≡ n → ⊥) → item_of key n xs ≡ None
other_here key n i xs d rises p lt differs = not_here key n i xs (get_or xs i d) rises p (stands_at xs i d lt) differs
