-- Rows by ascending id: where a writer's row stands, and what stays ascending.
use Rattle.std.proofs.Common.{◌≡◌, ℕ, zero, suc, ◌<◌, ◌≤◌, List, [], ◌∷◌, ◌++◌, length, get_or, Some, None, true, false, refl, ap, sym, ◌∙◌, subst, arith, nat_lt, nat_eq}
use Rattle.std.specs.Prelude.{slice_get, slice_set, remove}
use Rattle.std.specs.List.{All, AllWithin}
use Rattle.std.specs.List.Sorted.{IsPartitionedBy}
use Rattle.std.proofs.lemmas.Bool.{ltb-true, ltb-false, lt-ltb}
use Rattle.std.proofs.lemmas.Bool.Decides.{nat_tests}
use Rattle.std.proofs.lemmas.Option.{none-some, same_Some, slice_get_within, get_or_from_slice_get}
use Rattle.std.proofs.lemmas.List.Elements.{All-nil, All-cons, All-head, All-tail, All-set, All-push, All-weaker}
use Rattle.mount_model.specs.declared.row.Row.{Row}
use Rattle.mount_model.specs.Table.{row_of, with_row, without_row}
use Rattle.mount_model.specs.Regular.{AreAscending}
use Rattle.plfs_types.specs.Places.{HasPassed}

pub same_test : (a b : ℕ) → a ≡ b → nat_eq a b ≡ true
same_test a b e = grind (arith, nat_tests)

pub other_test : (a b : ℕ) → (a ≡ b → ⊥) → nat_eq a b ≡ false
other_test a b e = grind (arith, nat_tests)

-- what holds of each row holds of the one at a place
pub All-at : (P : Row → Type 0) (rows : List Row) (i : ℕ) (row : Row) → All P rows → slice_get rows i ≡ Some row → P row
All-at P rows i row all stands = subst P (get_or_from_slice_get rows i row row stands) (all i row (slice_get_within rows i row stands))

pub All-remove : (P : Row → Type 0) (rows : List Row) (i : ℕ) → All P rows → All P (remove rows i)
All-remove P [] zero all = all
All-remove P [] (suc i) all = all
All-remove P (r ∷ rows) zero all = All-tail P r rows all
All-remove P (r ∷ rows) (suc i) all = All-cons P r (remove rows i) (All-head P r rows all) (All-remove P rows i (All-tail P r rows all))

-- ---- the order of ids

below_first : (writer : ℕ) (rows : List Row) → AreAscending rows → (i j : ℕ) (d : Row) → i ≤ j → j < length rows → nat_lt (get_or rows j d).id writer ≡ true → nat_lt (get_or rows i d).id writer ≡ true
below_first writer [] rises i j d le lt h = absurd (omega arith)
below_first writer (r ∷ rows) rises zero zero d le lt h = h
below_first writer (r ∷ rows) rises (suc i) zero d le lt h = absurd (omega arith)
below_first writer (r ∷ rows) rises zero (suc j) d le lt h =
    let above : r.id < (get_or rows j d).id = rises.0 j d (omega arith) in
    lt-ltb r.id writer (omega (arith, ltb-true (get_or rows j d).id writer h))
below_first writer (r ∷ rows) rises (suc i) (suc j) d le lt h = below_first writer rows rises.1 i j d (omega arith) (omega arith) h

-- the rows of lesser ids stand in front of the others
pub partitioned : (writer : ℕ) (rows : List Row) → AreAscending rows → IsPartitionedBy (λ (r : Row). nat_lt r.id writer) rows
partitioned writer rows rises = λ i j d le lt h. below_first writer rows rises i j d le lt h

pub passed : (writer i : ℕ) (rows : List Row) → i ≤ length rows → AllWithin (λ (r : Row). nat_lt r.id writer ≡ true) rows 0 i → AllWithin (λ (r : Row). nat_lt r.id writer ≡ false) rows i (length rows) → HasPassed (λ (r : Row). r.id) writer i rows
passed writer zero [] le lesser others = tt
passed writer zero (r ∷ rows) le lesser others = ltb-false r.id writer (others 0 r (omega arith) (omega arith))
passed writer (suc i) [] le lesser others = tt
passed writer (suc i) (r ∷ rows) le lesser others = (
  ltb-true r.id writer (lesser 0 r (omega arith) (omega arith)),
  passed writer i rows (omega arith)
      (λ k d low high. lesser (suc k) d (omega arith) (omega arith))
      (λ k d low high. others (suc k) d (omega arith) (omega arith)),
)

-- ---- a writer's row

pub found : (writer i : ℕ) (rows : List Row) (row : Row) → HasPassed (λ (r : Row). r.id) writer i rows → slice_get rows i ≡ Some row → row.id ≡ writer → row_of writer rows ≡ Some row
found writer i [] row p stands is = absurd (none-some row stands)
found writer zero (r ∷ rows) row p stands is =
    let same : r ≡ row = same_Some r row stands in
    let test : nat_eq r.id writer ≡ true = same_test r.id writer (ap (λ (x : Row). x.id) same ∙ is) in
    rw test stands
found writer (suc i) (r ∷ rows) row p stands is =
    let other : r.id ≡ writer → ⊥ = λ e. omega (arith, e, p.0) in
    rw (other_test r.id writer other) (found writer i rows row p.1 stands is)

pub past_all : (writer i : ℕ) (rows : List Row) → HasPassed (λ (r : Row). r.id) writer i rows → length rows ≤ i → row_of writer rows ≡ None
past_all writer i [] p le = refl
past_all writer zero (r ∷ rows) p le = absurd (omega arith)
past_all writer (suc i) (r ∷ rows) p le =
    let other : r.id ≡ writer → ⊥ = λ e. omega (arith, e, p.0) in
    rw (other_test r.id writer other) (past_all writer i rows p.1 (omega arith))

all_above : (writer : ℕ) (rows : List Row) → All (λ (r : Row). writer < r.id) rows → row_of writer rows ≡ None
all_above writer [] all = refl
all_above writer (r ∷ rows) all =
    let above : writer < r.id = All-head (λ (x : Row). writer < x.id) r rows all in
    let other : r.id ≡ writer → ⊥ = λ e. omega (arith, e) in
    rw (other_test r.id writer other) (all_above writer rows (All-tail (λ (x : Row). writer < x.id) r rows all))

pub not_here : (writer i : ℕ) (rows : List Row) (row : Row) → AreAscending rows → HasPassed (λ (r : Row). r.id) writer i rows → slice_get rows i ≡ Some row → (row.id ≡ writer → ⊥) → row_of writer rows ≡ None
not_here writer i [] row rises p stands differs = refl
not_here writer zero (r ∷ rows) row rises p stands differs =
    let same : r ≡ row = same_Some r row stands in
    let other : r.id ≡ writer → ⊥ = λ e. differs (sym (ap (λ (x : Row). x.id) same) ∙ e) in
    let above : writer < r.id = omega (arith, p, other) in
    rw (other_test r.id writer other)
    (all_above writer rows (All-weaker (λ (x : Row). r.id < x.id) (λ (x : Row). writer < x.id) (λ x h. omega (arith, h)) rows rises.0))
not_here writer (suc i) (r ∷ rows) row rises p stands differs =
    let other : r.id ≡ writer → ⊥ = λ e. omega (arith, e, p.0) in
    rw (other_test r.id writer other) (not_here writer i rows row rises.1 p.1 stands differs)

-- ---- changes of one row

pub with_row_at : (rows : List Row) (i : ℕ) (row new : Row) → AreAscending rows → slice_get rows i ≡ Some row → new.id ≡ row.id → with_row new rows ≡ slice_set rows i new
with_row_at [] i row new rises stands same = absurd (none-some row stands)
with_row_at (r ∷ rows) zero row new rises stands same =
    let is : r ≡ row = same_Some r row stands in
    let test : nat_eq r.id new.id ≡ true = same_test r.id new.id (ap (λ (x : Row). x.id) is ∙ sym same) in
    rw test refl
with_row_at (r ∷ rows) (suc i) row new rises stands same =
    let above : r.id < row.id = All-at (λ (x : Row). r.id < x.id) rows i row rises.0 stands in
    let other : r.id ≡ new.id → ⊥ = λ e. omega (arith, e, same, above) in
    rw (other_test r.id new.id other) (ap (λ (l : List Row). r ∷ l) (with_row_at rows i row new rises.1 stands same))

pub without_row_at : (rows : List Row) (i : ℕ) (row : Row) → AreAscending rows → slice_get rows i ≡ Some row → without_row row.id rows ≡ remove rows i
without_row_at [] i row rises stands = absurd (none-some row stands)
without_row_at (r ∷ rows) zero row rises stands =
    let is : r ≡ row = same_Some r row stands in
    let test : nat_eq r.id row.id ≡ true = same_test r.id row.id (ap (λ (x : Row). x.id) is) in
    rw test refl
without_row_at (r ∷ rows) (suc i) row rises stands =
    let above : r.id < row.id = All-at (λ (x : Row). r.id < x.id) rows i row rises.0 stands in
    let other : r.id ≡ row.id → ⊥ = λ e. omega (arith, e, above) in
    rw (other_test r.id row.id other) (ap (λ (l : List Row). r ∷ l) (without_row_at rows i row rises.1 stands))

pub ascending_set : (rows : List Row) (i : ℕ) (row new : Row) → AreAscending rows → slice_get rows i ≡ Some row → new.id ≡ row.id → AreAscending (slice_set rows i new)
ascending_set [] i row new rises stands same = absurd (none-some row stands)
ascending_set (r ∷ rows) zero row new rises stands same =
    let id_is : r.id ≡ new.id = ap (λ (x : Row). x.id) (same_Some r row stands) ∙ sym same in
    (subst (λ (n : ℕ). All (λ (x : Row). n < x.id) rows) id_is rises.0, rises.1)
ascending_set (r ∷ rows) (suc i) row new rises stands same =
    let above : r.id < row.id = All-at (λ (x : Row). r.id < x.id) rows i row rises.0 stands in
    (All-set (λ (x : Row). r.id < x.id) rows i new (omega (arith, above, same)) rises.0, ascending_set rows i row new rises.1 stands same)

pub ascending_remove : (rows : List Row) (i : ℕ) → AreAscending rows → AreAscending (remove rows i)
ascending_remove [] zero rises = tt
ascending_remove [] (suc i) rises = tt
ascending_remove (r ∷ rows) zero rises = rises.1
ascending_remove (r ∷ rows) (suc i) rises = (All-remove (λ (x : Row). r.id < x.id) rows i rises.0, ascending_remove rows i rises.1)

pub ascending_push : (rows : List Row) (new : Row) → AreAscending rows → All (λ (r : Row). r.id < new.id) rows → AreAscending (rows ++ new ∷ [])
ascending_push [] new rises all = (All-nil (λ (x : Row). new.id < x.id), tt)
ascending_push (r ∷ rows) new rises all = (
  All-push (λ (x : Row). r.id < x.id) rows new rises.0 (All-head (λ (x : Row). x.id < new.id) r rows all),
  ascending_push rows new rises.1 (All-tail (λ (x : Row). x.id < new.id) r rows all),
)
