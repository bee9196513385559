-- Finding rows after one was put, added or taken out.
use Rattle.std.proofs.Common.{◌≡◌, ℕ, List, [], ◌∷◌, ◌++◌, Option, Some, None, refl, ◌∙◌, ◌⊎◌, inl, inr, subst, arith, true, false, nat_eq, Bool}
use Rattle.std.specs.Prelude.{MatchOption, if◌then◌else◌, ◌&&◌}
use Rattle.std.proofs.lemmas.Bool.Decides.{nat_tests}
use Rattle.mount_model.specs.Table.{row_of, with_row, without_row, held_by}
use Rattle.mount_model.specs.declared.row.Row.{Row}
use Rattle.mount_model.specs.declared.row.Stage.{Stage}

differ : (a b : ℕ) → (a ≡ b → ⊥) → nat_eq b a ≡ false
differ a b other = grind (arith, nat_tests)

alike : (a b : ℕ) → nat_eq a b ≡ true → a ≡ b
alike a b t = grind (arith, nat_tests)

itself : (a b : ℕ) → a ≡ b → nat_eq a b ≡ true
itself a b t = grind (arith, nat_tests)

pub row_of_id : (id : ℕ) (rows : List Row) (row : Row) → row_of id rows ≡ Some row → row.id ≡ id
row_of_id id [] row e = absurd (cc)
row_of_id id (r ∷ rows) row e =
    elim (nat_eq r.id id) as (λ b. nat_eq r.id id ≡ b → (if b then Some r else row_of id rows) ≡ Some row → row.id ≡ id) [
      | true ↦ λ t s. let same : r ≡ row = cc in let at : r.id ≡ id = grind (arith, nat_tests) in subst (λ x. x.id ≡ id) same at
      | false ↦ λ t s. row_of_id id rows row s
    ] refl e

pub row_of_other-with_row : (new : Row) (rows : List Row) (q : ℕ) → (q ≡ new.id → ⊥) → row_of q (with_row new rows) ≡ row_of q rows
row_of_other-with_row new [] q other = refl
row_of_other-with_row new (r ∷ rows) q other = elim (nat_eq r.id new.id) as (λ b. nat_eq r.id new.id ≡ b → row_of q (if b then new ∷ rows else r ∷ with_row new rows) ≡ row_of q (r ∷ rows)) [
  | true ↦ λ t.
      let here : nat_eq new.id q ≡ false = differ q new.id other in
      let there : nat_eq r.id q ≡ false = differ q r.id (λ s. other (s ∙ alike r.id new.id t)) in
      rw (here, there) refl
  | false ↦ λ t. elim (nat_eq r.id q) as (λ b. (if b then Some r else row_of q (with_row new rows)) ≡ (if b then Some r else row_of q rows)) [ true ↦ refl | false ↦ row_of_other-with_row new rows q other ]
] refl

-- a row of the writer is found after it was put in place
pub row_of-put : (new : Row) (rows : List Row) (row : Row) → row_of new.id rows ≡ Some row → row_of new.id (with_row new rows) ≡ Some new
row_of-put new [] row e = absurd (cc)
row_of-put new (x ∷ rows) row e = elim (nat_eq x.id new.id) as (λ b. nat_eq x.id new.id ≡ b → (if b then Some x else row_of new.id rows) ≡ Some row → row_of new.id (if b then new ∷ rows else x ∷ with_row new rows) ≡ Some new) [
  | true ↦ λ t f. rw (itself new.id new.id refl) refl
  | false ↦ λ t f. rw t (row_of-put new rows row f)
] refl e

pub row_of_other-without_row : (id : ℕ) (rows : List Row) (q : ℕ) → (q ≡ id → ⊥) → row_of q (without_row id rows) ≡ row_of q rows
row_of_other-without_row id [] q other = refl
row_of_other-without_row id (r ∷ rows) q other = elim (nat_eq r.id id) as (λ b. nat_eq r.id id ≡ b → row_of q (if b then rows else r ∷ without_row id rows) ≡ row_of q (r ∷ rows)) [
  | true ↦ λ t.
      let there : nat_eq r.id q ≡ false = differ q r.id (λ s. other (s ∙ alike r.id id t)) in
      rw there refl
  | false ↦ λ t. elim (nat_eq r.id q) as (λ b. (if b then Some r else row_of q (without_row id rows)) ≡ (if b then Some r else row_of q rows)) [ true ↦ refl | false ↦ row_of_other-without_row id rows q other ]
] refl

-- what was found is found after a row was added at the end
pub row_of-added : (q : ℕ) (rows : List Row) (new row : Row) → row_of q rows ≡ Some row → row_of q (rows ++ new ∷ []) ≡ Some row
row_of-added q [] new row e = absurd (cc)
row_of-added q (r ∷ rows) new row e = elim (nat_eq r.id q) as (λ b. (if b then Some r else row_of q rows) ≡ Some row → (if b then Some r else row_of q (rows ++ new ∷ [])) ≡ Some row) [ true ↦ λ f. f | false ↦ λ f. row_of-added q rows new row f ] e

-- a caller's writer is in the table, and is the caller's
pub held_row : (owner : ℕ) (stages : Stage → Bool) (o : Option Row) (row : Row) → held_by owner stages o ≡ Some row → (o ≡ Some row) × (row.owner ≡ owner)
held_row owner stages None row e = absurd (cc)
held_row owner stages (Some r) row e = elim (nat_eq r.owner owner) as (λ a. nat_eq r.owner owner ≡ a → (if a && stages r.stage then Some r else None) ≡ Some row → (Some r ≡ Some row) × (row.owner ≡ owner)) [
  | true ↦ λ t. elim (stages r.stage) as (λ b. (if b then Some r else None) ≡ Some row → (Some r ≡ Some row) × (row.owner ≡ owner)) [
    | true ↦ λ f. let same : r ≡ row = cc in (f, subst (λ x. x.owner ≡ owner) same (alike r.owner owner t))
    | false ↦ λ f. absurd (cc)
  ]
  | false ↦ λ t f. absurd (cc)
] refl e

-- the cases of a match on an option
pub match_cases : {A : Type 0} (o : Option A) (P : Type 0) (Q : A → Type 0) → MatchOption o P Q → ((o ≡ None) × P) ⊎ ((x : A) × (o ≡ Some x) × Q x)
match_cases None P Q m = inl (refl, m)
match_cases (Some x) P Q m = inr (x, refl, m)

pub some_eq : (a b : Row) (o : Option Row) → o ≡ Some a → o ≡ Some b → a ≡ b
some_eq a b o p q = cc
