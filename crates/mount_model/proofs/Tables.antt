-- Rows of a table once one of them has changed.
use Rattle.std.proofs.Common.{◌≡◌, ℕ, ◌<◌, List, [], ◌∷◌, ◌++◌, true, false, nat_eq, Some, None, refl, ◌∙◌, subst, arith, if◌then◌else◌}
use Rattle.std.specs.List.{All}
use Rattle.std.proofs.lemmas.Bool.Decides.{nat_tests}
use Rattle.std.proofs.lemmas.List.Elements.{All-nil, All-cons, All-head, All-tail}
use Rattle.mount_model.specs.declared.row.Row.{Row}
use Rattle.mount_model.specs.Table.{row_of, with_row, without_row}
use Rattle.mount_model.specs.Regular.{AreAscending}

pub alike : (a b : ℕ) → nat_eq a b ≡ true → a ≡ b
alike a b t = grind (arith, nat_tests)

pub apart : (a b : ℕ) → nat_eq a b ≡ false → a ≡ b → ⊥
apart a b t same = grind (arith, nat_tests)

pub differ : (a b : ℕ) → (a ≡ b → ⊥) → nat_eq b a ≡ false
differ a b other = grind (arith, nat_tests)

pub itself : (a : ℕ) → nat_eq a a ≡ true
itself a = grind (arith, nat_tests)

-- ---- the row that is found

-- it is of the writer
pub row_of_id : (id : ℕ) (rows : List Row) (row : Row) → row_of id rows ≡ Some row → row.id ≡ id
row_of_id id [] row e = absurd (cc)
row_of_id id (x ∷ rows) row e = elim (nat_eq x.id id) as (λ b. nat_eq x.id id ≡ b → (if b then Some x else row_of id rows) ≡ Some row → row.id ≡ id) [
  | true ↦ λ t f. let same : x ≡ row = cc in subst (λ (r : Row). r.id ≡ id) same (alike x.id id t)
  | false ↦ λ t f. row_of_id id rows row f
] refl e

-- what holds of all rows holds of it
pub row_of_all : (P : Row → Type 0) (id : ℕ) (rows : List Row) (row : Row) → All P rows → row_of id rows ≡ Some row → P row
row_of_all P id [] row all e = absurd (cc)
row_of_all P id (x ∷ rows) row all e = elim (nat_eq x.id id) as (λ b. (if b then Some x else row_of id rows) ≡ Some row → P row) [
  | true ↦ λ f. let same : x ≡ row = cc in subst P same (All-head P x rows all)
  | false ↦ λ f. row_of_all P id rows row (All-tail P x rows all) f
] e

-- none is found of an id that no row has
pub row_of_none : (id : ℕ) (rows : List Row) → All (λ (row : Row). row.id ≡ id → ⊥) rows → row_of id rows ≡ None
row_of_none id [] all = refl
row_of_none id (x ∷ rows) all = elim (nat_eq x.id id) as (λ b. nat_eq x.id id ≡ b → (if b then Some x else row_of id rows) ≡ None) [
  | true ↦ λ t. absurd (All-head (λ (row : Row). row.id ≡ id → ⊥) x rows all (alike x.id id t))
  | false ↦ λ t. row_of_none id rows (All-tail (λ (row : Row). row.id ≡ id → ⊥) x rows all)
] refl

-- ---- a row in place of its writer's

pub row_of_other-with_row : (new : Row) (rows : List Row) (q : ℕ) → (q ≡ new.id → ⊥) → row_of q (with_row new rows) ≡ row_of q rows
row_of_other-with_row new [] q other = refl
row_of_other-with_row new (x ∷ rows) q other = elim (nat_eq x.id new.id) as (λ b. nat_eq x.id new.id ≡ b → row_of q (if b then new ∷ rows else x ∷ with_row new rows) ≡ row_of q (x ∷ rows)) [
  | true ↦ λ t.
      let here : nat_eq new.id q ≡ false = differ q new.id other in
      let there : nat_eq x.id q ≡ false = differ q x.id (λ s. other (s ∙ alike x.id new.id t)) in
      rw (here, there) refl
  | false ↦ λ t. elim (nat_eq x.id q) as (λ b. (if b then Some x else row_of q (with_row new rows)) ≡ (if b then Some x else row_of q rows)) [ true ↦ refl | false ↦ row_of_other-with_row new rows q other ]
] refl

-- where its writer had a row, it is found
pub row_of-with_row : (new : Row) (rows : List Row) (row : Row) → row_of new.id rows ≡ Some row → row_of new.id (with_row new rows) ≡ Some new
row_of-with_row new [] row e = absurd (cc)
row_of-with_row new (x ∷ rows) row e = elim (nat_eq x.id new.id) as (λ b. nat_eq x.id new.id ≡ b → (if b then Some x else row_of new.id rows) ≡ Some row → row_of new.id (if b then new ∷ rows else x ∷ with_row new rows) ≡ Some new) [
  | true ↦ λ t f. rw (itself new.id) refl
  | false ↦ λ t f. rw t (row_of-with_row new rows row f)
] refl e

-- what holds of all rows, and goes over to it from a row of its writer, holds of all
pub all-with_row : (P : Row → Type 0) (new : Row) (rows : List Row) → ((row : Row) → row.id ≡ new.id → P row → P new) → All P rows → All P (with_row new rows)
all-with_row P new [] turns all = All-nil P
all-with_row P new (x ∷ rows) turns all = elim (nat_eq x.id new.id) as (λ b. nat_eq x.id new.id ≡ b → All P (if b then new ∷ rows else x ∷ with_row new rows)) [
  | true ↦ λ t. All-cons P new rows (turns x (alike x.id new.id t) (All-head P x rows all)) (All-tail P x rows all)
  | false ↦ λ t. All-cons P x (with_row new rows) (All-head P x rows all) (all-with_row P new rows turns (All-tail P x rows all))
] refl

pub ascending-with_row : (new : Row) (rows : List Row) → AreAscending rows → AreAscending (with_row new rows)
ascending-with_row new [] a = tt
ascending-with_row new (x ∷ rows) a = elim (nat_eq x.id new.id) as (λ b. nat_eq x.id new.id ≡ b → AreAscending (if b then new ∷ rows else x ∷ with_row new rows)) [
  | true ↦ λ t. (subst (λ id. All (λ (later : Row). id < later.id) rows) (alike x.id new.id t) a.0, a.1)
  | false ↦ λ t. (
    all-with_row (λ (later : Row). x.id < later.id) new rows (λ row same less. subst (λ id. x.id < id) same less) a.0,
    ascending-with_row new rows a.1,
  )
] refl

-- ---- a row that is taken out

pub row_of_other-without_row : (id : ℕ) (rows : List Row) (q : ℕ) → (q ≡ id → ⊥) → row_of q (without_row id rows) ≡ row_of q rows
row_of_other-without_row id [] q other = refl
row_of_other-without_row id (x ∷ rows) q other = elim (nat_eq x.id id) as (λ b. nat_eq x.id id ≡ b → row_of q (if b then rows else x ∷ without_row id rows) ≡ row_of q (x ∷ rows)) [
  | true ↦ λ t. let there : nat_eq x.id q ≡ false = differ q x.id (λ s. other (s ∙ alike x.id id t)) in rw there refl
  | false ↦ λ t. elim (nat_eq x.id q) as (λ b. (if b then Some x else row_of q (without_row id rows)) ≡ (if b then Some x else row_of q rows)) [ true ↦ refl | false ↦ row_of_other-without_row id rows q other ]
] refl

pub all-without_row : (P : Row → Type 0) (id : ℕ) (rows : List Row) → All P rows → All P (without_row id rows)
all-without_row P id [] all = All-nil P
all-without_row P id (x ∷ rows) all = elim (nat_eq x.id id) as (λ b. All P (if b then rows else x ∷ without_row id rows)) [
  | true ↦ All-tail P x rows all
  | false ↦ All-cons P x (without_row id rows) (All-head P x rows all) (all-without_row P id rows (All-tail P x rows all))
]

pub ascending-without_row : (id : ℕ) (rows : List Row) → AreAscending rows → AreAscending (without_row id rows)
ascending-without_row id [] a = tt
ascending-without_row id (x ∷ rows) a = elim (nat_eq x.id id) as (λ b. AreAscending (if b then rows else x ∷ without_row id rows)) [
  | true ↦ a.1
  | false ↦ (all-without_row (λ (later : Row). x.id < later.id) id rows a.0, ascending-without_row id rows a.1)
]

-- rows above an id are not of it
above_differ : (id : ℕ) (rows : List Row) → All (λ (later : Row). id < later.id) rows → All (λ (row : Row). row.id ≡ id → ⊥) rows
above_differ id [] all = All-nil (λ (row : Row). row.id ≡ id → ⊥)
above_differ id (x ∷ rows) all =
    All-cons (λ (row : Row). row.id ≡ id → ⊥) x rows
    (λ same. omega (arith, All-head (λ (later : Row). id < later.id) x rows all))
    (above_differ id rows (All-tail (λ (later : Row). id < later.id) x rows all))

-- its writer has none then
pub row_of-without_row : (id : ℕ) (rows : List Row) → AreAscending rows → row_of id (without_row id rows) ≡ None
row_of-without_row id [] a = refl
row_of-without_row id (x ∷ rows) a = elim (nat_eq x.id id) as (λ b. nat_eq x.id id ≡ b → row_of id (if b then rows else x ∷ without_row id rows) ≡ None) [
  | true ↦ λ t. row_of_none id rows (above_differ id rows (subst (λ n. All (λ (later : Row). n < later.id) rows) (alike x.id id t) a.0))
  | false ↦ λ t. rw t (row_of-without_row id rows a.1)
] refl

-- ---- a row that is added

pub row_of_other-push : (rows : List Row) (new : Row) (q : ℕ) → (q ≡ new.id → ⊥) → row_of q (rows ++ new ∷ []) ≡ row_of q rows
row_of_other-push [] new q other = let t : nat_eq new.id q ≡ false = differ q new.id other in rw t refl
row_of_other-push (x ∷ rows) new q other = elim (nat_eq x.id q) as (λ b. (if b then Some x else row_of q (rows ++ new ∷ [])) ≡ (if b then Some x else row_of q rows)) [ true ↦ refl | false ↦ row_of_other-push rows new q other ]

-- where its writer had none, it is found
pub row_of-push : (rows : List Row) (new : Row) → row_of new.id rows ≡ None → row_of new.id (rows ++ new ∷ []) ≡ Some new
row_of-push [] new e = rw (itself new.id) refl
row_of-push (x ∷ rows) new e = elim (nat_eq x.id new.id) as (λ b. (if b then Some x else row_of new.id rows) ≡ None → (if b then Some x else row_of new.id (rows ++ new ∷ [])) ≡ Some new) [
  | true ↦ λ f. absurd (cc)
  | false ↦ λ f. row_of-push rows new f
] e

one_above : (x new : Row) (rows : List Row) → All (λ (later : Row). x.id < later.id) rows → x.id < new.id → All (λ (later : Row). x.id < later.id) (rows ++ new ∷ [])
one_above x new [] all less = All-cons (λ (later : Row). x.id < later.id) new [] less (All-nil (λ (later : Row). x.id < later.id))
one_above x new (y ∷ rows) all less =
    All-cons (λ (later : Row). x.id < later.id) y (rows ++ new ∷ []) (All-head (λ (later : Row). x.id < later.id) y rows all)
    (one_above x new rows (All-tail (λ (later : Row). x.id < later.id) y rows all) less)

pub ascending-push : (rows : List Row) (new : Row) → All (λ (row : Row). row.id < new.id) rows → AreAscending rows → AreAscending (rows ++ new ∷ [])
ascending-push [] new below a = (All-nil (λ (later : Row). new.id < later.id), tt)
ascending-push (x ∷ rows) new below a = (
  one_above x new rows a.0 (All-head (λ (row : Row). row.id < new.id) x rows below),
  ascending-push rows new (All-tail (λ (row : Row). row.id < new.id) x rows below) a.1,
)
