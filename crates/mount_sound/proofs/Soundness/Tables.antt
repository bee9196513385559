-- The one row of a writer.
use Rattle.std.proofs.Common.{◌≡◌, ℕ, List, [], ◌∷◌, ◌++◌, Option, Some, None, true, false, nat_eq, refl}
use Rattle.std.specs.Prelude.{if◌then◌else◌}
use Rattle.mount_model.specs.declared.row.Row.{Row}
use Rattle.mount_model.specs.Table.{row_of, with_row}
use Rattle.mount_model.proofs.Facts.{itself, row_of-push}

some_eq : (a b : Row) (o : Option Row) → o ≡ Some a → o ≡ Some b → a ≡ b
some_eq a b o p q = cc

-- a writer has one row
pub one_row : (rows : List Row) (id : ℕ) (a b : Row) → row_of id rows ≡ Some a → row_of id rows ≡ Some b → a ≡ b
one_row rows id a b p q = some_eq a b (row_of id rows) p q

-- where its row was put in place, that is its row
pub put_row : (new : Row) (rows : List Row) (r : Row) → row_of new.id (with_row new rows) ≡ Some r → r ≡ new
put_row new [] r e = cc
put_row new (x ∷ rows) r e = elim (nat_eq x.id new.id) as (λ b. nat_eq x.id new.id ≡ b → row_of new.id (if b then new ∷ rows else x ∷ with_row new rows) ≡ Some r → r ≡ new) [
  | true ↦ λ t f. let g : Some new ≡ Some r = rw (itself new.id) at f in cc
  | false ↦ λ t f. put_row new rows r (rw t at f)
] refl e

absent : (o : Option Row) → ((x : Row) → o ≡ Some x → ⊥) → o ≡ None
absent None never = refl
absent (Some x) never = absurd (never x refl)

-- where it had none, a row that was added is its row
pub added_row : (rows : List Row) (new r : Row) → ((x : Row) → row_of new.id rows ≡ Some x → ⊥) → row_of new.id (rows ++ new ∷ []) ≡ Some r → r ≡ new
added_row rows new r never e = one_row (rows ++ new ∷ []) new.id r new e (row_of-push rows new (absent (row_of new.id rows) never))
