-- The writers that a migration packs rise: each is another one.
use Rattle.std.proofs.Common.{◌≡◌, ◌≤◌, ◌<◌, ◌==◌, ℕ, nat_le, Bool, true, false, List, [], ◌∷◌, ◌++◌, Option, Some, None, refl, arith}
use Rattle.std.specs.Prelude.{not, ◌&&◌, if◌then◌else◌}
use Rattle.std.specs.List.{AllByRecursion}
use Rattle.std.proofs.lemmas.Bool.Decides.{nat_tests}
use Rattle.mount_model.specs.declared.names.Metadata.{Metadata}
use Rattle.mount_model.specs.Order.{metadata_by_writer, put_by}
use Rattle.index_reader.specs.declared.listing.Dropping.{Dropping}
use Rattle.migrate_core.specs.Chosen.{chosen, chosen_behind, is_again, is_open_to}
use Rattle.migrate_laws.proofs.Migrating.{all_push, all_put}

pub all_so : (P Q : Metadata → Type 0) (ms : List Metadata) → ((m : Metadata) → P m → Q m) → AllByRecursion P ms → AllByRecursion Q ms
all_so P Q [] so a = tt
all_so P Q (m ∷ ms) so a = (so m a.0, all_so P Q ms so a.1)

-- ---- in order

abbrev Sorted : List Metadata → Type 0
Sorted [] = Unit {0}
Sorted (m ∷ ms) = AllByRecursion (λ (x : Metadata). m.writer ≤ x.writer) ms × Sorted ms

-- each is below those after it
abbrev pub Rises : List Metadata → Type 0
Rises [] = Unit {0}
Rises (m ∷ ms) = AllByRecursion (λ (x : Metadata). m.writer < x.writer) ms × Rises ms

is_le : (a b : ℕ) → nat_le a b ≡ true → a ≤ b
is_le a b h = grind (arith, nat_tests, h)

is_more : (a b : ℕ) → nat_le a b ≡ false → b ≤ a
is_more a b h = grind (arith, nat_tests, h)

put_sorted : (m : Metadata) (ms : List Metadata) → Sorted ms → Sorted (put_by (λ (x : Metadata). x.writer) m ms)
put_sorted m [] s = (tt, tt)
put_sorted m (x ∷ ms) s = elim (nat_le m.writer x.writer) as (λ b. nat_le m.writer x.writer ≡ b → Sorted (if b then m ∷ x ∷ ms else x ∷ put_by (λ (y : Metadata). y.writer) m ms)) [
  | true ↦ λ is.
      let low : m.writer ≤ x.writer = is_le m.writer x.writer is in
      ((low, all_so (λ (y : Metadata). x.writer ≤ y.writer) (λ (y : Metadata). m.writer ≤ y.writer) ms (λ y high. omega (arith, low, high)) s.0), s)
  | false ↦ λ is. (all_put (λ (y : Metadata). x.writer ≤ y.writer) m ms (is_more m.writer x.writer is) s.0, put_sorted m ms s.1)
] refl

sorted : (ms : List Metadata) → Sorted (metadata_by_writer ms)
sorted [] = tt
sorted (m ∷ ms) = put_sorted m (metadata_by_writer ms) (sorted ms)

-- ---- each is chosen once

rises_push : (ms : List Metadata) (m : Metadata) → Rises ms → AllByRecursion (λ (x : Metadata). x.writer < m.writer) ms → Rises (ms ++ m ∷ [])
rises_push [] m r below = (tt, tt)
rises_push (x ∷ ms) m r below = (all_push (λ (y : Metadata). x.writer < y.writer) ms m r.0 below.0, rises_push ms m r.1 below.1)

abbrev AtLeast : Option ℕ → List Metadata → Type 0
AtLeast None ms = Unit {0}
AtLeast (Some last) ms = AllByRecursion (λ (m : Metadata). last ≤ m.writer) ms

abbrev AtMost : Option ℕ → List Metadata → Type 0
AtMost None ms = AllByRecursion (λ (m : Metadata). ⊥) ms
AtMost (Some last) ms = AllByRecursion (λ (m : Metadata). m.writer ≤ last) ms

not_again : (a b : ℕ) → (not (a == b)) ≡ true → b ≤ a → b < a
not_again a b is low = grind (arith, nat_tests, is, low)

first_of : (a b : Bool) → (a && b) ≡ true → a ≡ true
first_of true b e = refl
first_of false b e = e

-- those so far are below a further one
below : (last : Option ℕ) (m : Metadata) (ms sofar : List Metadata) → AtLeast last (m ∷ ms) → AtMost last sofar → not (is_again last m) ≡ true → AllByRecursion (λ (x : Metadata). x.writer < m.writer) sofar
below None m ms sofar least most is = all_so (λ (x : Metadata). ⊥) (λ (x : Metadata). x.writer < m.writer) sofar (λ x never. absurd never) most
below (Some last) m ms sofar least most is =
    let more : last < m.writer = not_again m.writer last is least.0 in
    all_so (λ (x : Metadata). x.writer ≤ last) (λ (x : Metadata). x.writer < m.writer) sofar (λ x low. omega (arith, low, more)) most

up_to : (last : Option ℕ) (m : Metadata) (ms sofar : List Metadata) → AtLeast last (m ∷ ms) → AtMost last sofar → AtMost (Some m.writer) sofar
up_to None m ms sofar least most = all_so (λ (x : Metadata). ⊥) (λ (x : Metadata). x.writer ≤ m.writer) sofar (λ x never. absurd never) most
up_to (Some last) m ms sofar least most = all_so (λ (x : Metadata). x.writer ≤ last) (λ (x : Metadata). x.writer ≤ m.writer) sofar (λ x low. omega (arith, low, least.0)) most

itself : (n : ℕ) → n ≤ n
itself n = omega arith

behind_rises : (droppings : List Dropping) (last : Option ℕ) (ms sofar : List Metadata) → Sorted ms → AtLeast last ms → Rises sofar → AtMost last sofar → Rises (chosen_behind droppings last ms sofar)
behind_rises droppings last [] sofar s least r most = r
behind_rises droppings last (m ∷ ms) sofar s least r most =
    let now : AtMost (Some m.writer) sofar = up_to last m ms sofar least most in
    elim (not (is_again last m) && is_open_to droppings m) as (λ c. (not (is_again last m) && is_open_to droppings m) ≡ c → Rises (if c then chosen_behind droppings (Some m.writer) ms (sofar ++ m ∷ []) else chosen_behind droppings (Some m.writer) ms sofar)) [
      | true ↦ λ is. behind_rises droppings (Some m.writer) ms (sofar ++ m ∷ []) s.1 s.0
          (rises_push sofar m r (below last m ms sofar least most (first_of (not (is_again last m)) (is_open_to droppings m) is)))
          (all_push (λ (x : Metadata). x.writer ≤ m.writer) sofar m now (itself m.writer))
      | false ↦ λ is. behind_rises droppings (Some m.writer) ms sofar s.1 s.0 r now
    ] refl

pub chosen_rises : (droppings : List Dropping) (ms : List Metadata) → Rises (chosen droppings ms)
chosen_rises droppings ms = behind_rises droppings None (metadata_by_writer ms) [] (sorted ms) tt tt tt
