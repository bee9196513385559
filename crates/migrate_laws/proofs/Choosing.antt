-- A migration chooses each writer that had written and has no packed index.
use Rattle.std.proofs.Common.{◌≡◌, ◌≤◌, ◌==◌, ℕ, nat_le, nat_lt, Bool, true, false, ◌||◌, List, [], ◌∷◌, ◌++◌, Option, Some, None, refl, ap, sym, ◌∙◌, ◌⊎◌, inl, inr, subst, arith}
use Rattle.std.specs.Prelude.{not, ◌&&◌, if◌then◌else◌, Result, Ok}
use Rattle.std.specs.List.{AllByRecursion}
use Rattle.std.proofs.lemmas.Bool.{cases_eq}
use Rattle.std.proofs.lemmas.Bool.Decides.{nat_tests}
use Rattle.store_api.specs.Names.{same_name}
use Rattle.store_laws.specs.Differ.{is_listed}
use Rattle.store_laws.proofs.Facts.{name_eq}
use Rattle.mount_model.specs.declared.names.Metadata.{Metadata}
use Rattle.mount_model.specs.declared.stuck.Stuck.{Stuck}
use Rattle.mount_model.specs.FlowListed.{file_in}
use Rattle.mount_model.specs.Names.{meta_in}
use Rattle.mount_model.specs.Order.{metadata_by_writer, put_by}
use Rattle.mount_model.specs.FlowReplies.{damage}
use Rattle.mount_model.specs.Paths.{Name, metadata}
use Rattle.index_reader.specs.declared.listing.Dropping.{Dropping}
use Rattle.index_reader.specs.Found.{item_of}
use Rattle.migrate_core.specs.Chosen.{chosen, chosen_behind, is_again, is_open_to, is_packed, metas_named}
use Rattle.migrate_laws.proofs.Migrating.{all_push, went_on}

-- one of them is of this writer
abbrev pub HasOf : ℕ → List Metadata → Type 0
HasOf writer [] = ⊥
HasOf writer (m ∷ ms) = (m.writer ≡ writer) ⊎ HasOf writer ms

-- what holds of all holds of that one
pub pick : (P : Metadata → Type 0) (writer : ℕ) (ms : List Metadata) → AllByRecursion P ms → HasOf writer ms → (m : Metadata) × (m.writer ≡ writer) × P m
pick P writer [] a h = absurd h
pick P writer (m ∷ ms) a (inl is) = (m, is, a.0)
pick P writer (m ∷ ms) a (inr h) = pick P writer ms a.1 h

has_push_before : (writer : ℕ) (ms : List Metadata) (m : Metadata) → HasOf writer ms → HasOf writer (ms ++ m ∷ [])
has_push_before writer [] m h = absurd h
has_push_before writer (x ∷ ms) m (inl is) = inl is
has_push_before writer (x ∷ ms) m (inr h) = inr (has_push_before writer ms m h)

has_pushed : (writer : ℕ) (ms : List Metadata) (m : Metadata) → m.writer ≡ writer → HasOf writer (ms ++ m ∷ [])
has_pushed writer [] m is = inl is
has_pushed writer (x ∷ ms) m is = inr (has_pushed writer ms m is)

put_behind : (writer : ℕ) (m x : Metadata) (ms : List Metadata) → (HasOf writer (m ∷ ms) → HasOf writer (put_by (λ (y : Metadata). y.writer) m ms)) → HasOf writer (m ∷ x ∷ ms) → HasOf writer (x ∷ put_by (λ (y : Metadata). y.writer) m ms)
put_behind writer m x ms again (inl is) = inr (again (inl is))
put_behind writer m x ms again (inr (inl is)) = inl is
put_behind writer m x ms again (inr (inr on)) = inr (again (inr on))

has_put : (writer : ℕ) (m : Metadata) (ms : List Metadata) → HasOf writer (m ∷ ms) → HasOf writer (put_by (λ (x : Metadata). x.writer) m ms)
has_put writer m [] h = h
has_put writer m (x ∷ ms) h = elim (nat_le m.writer x.writer) as (λ b. HasOf writer (if b then m ∷ x ∷ ms else x ∷ put_by (λ (y : Metadata). y.writer) m ms)) [
  | true ↦ h
  | false ↦ put_behind writer m x ms (has_put writer m ms) h
]

has_ordered : (writer : ℕ) (ms : List Metadata) → HasOf writer ms → HasOf writer (metadata_by_writer ms)
has_ordered writer [] h = absurd h
has_ordered writer (m ∷ ms) (inl is) = has_put writer m (metadata_by_writer ms) (inl is)
has_ordered writer (m ∷ ms) (inr h) = has_put writer m (metadata_by_writer ms) (inr (has_ordered writer ms h))

-- ---- none is left out

is_true : (b : Bool) → not b ≡ false → b ≡ true
is_true true e = refl
is_true false e = absurd (let clash : true ≡ false = e in cc)

other_false : (a b : Bool) → (a && b) ≡ false → b ≡ true → a ≡ false
other_false true b e is = absurd (let clash : true ≡ false = sym is ∙ e in cc)
other_false false b e is = refl

more_than_none : (n : ℕ) → 1 ≤ n → nat_lt 0 n ≡ true
more_than_none n some = grind (arith, nat_tests, some)

same_number : (a b : ℕ) → (a == b) ≡ true → a ≡ b
same_number a b e = grind (arith, nat_tests, e)

again_of : (last : Option ℕ) (m : Metadata) → is_again last m ≡ true → last ≡ Some m.writer
again_of None m e = absurd (let clash : false ≡ true = e in cc)
again_of (Some writer) m e = ap (λ (n : ℕ). Some n) (sym (same_number m.writer writer e))

module _ (writer : ℕ) (droppings : List Dropping) (none : is_packed (item_of (λ (d : Dropping). d.writer) writer droppings) ≡ false) where
  abbrev HasWritten : Metadata → Type 0
  HasWritten m = m.writer ≡ writer → 1 ≤ m.stamp

  is_open : (m : Metadata) → HasWritten m → m.writer ≡ writer → is_open_to droppings m ≡ true
  is_open m wrote is =
      let lacks : is_packed (item_of (λ (d : Dropping). d.writer) m.writer droppings) ≡ false = ap (λ w. is_packed (item_of (λ (d : Dropping). d.writer) w droppings)) is ∙ none in
      ap (λ b. nat_lt 0 m.stamp && not b) lacks ∙ ap (λ b. b && true) (more_than_none m.stamp (wrote is))

  -- with one more that may be of the writer
  module _ (last : Option ℕ) (m : Metadata) (ms sofar : List Metadata) (wrote : HasWritten m) (so : last ≡ Some writer → HasOf writer sofar) (h : HasOf writer (m ∷ ms) ⊎ HasOf writer sofar)
      (again : (next : Option ℕ) (more : List Metadata) → (next ≡ Some writer → HasOf writer more) → HasOf writer ms ⊎ HasOf writer more → HasOf writer (chosen_behind droppings next ms more)) where
    others : (m.writer ≡ writer → ⊥) → HasOf writer ms ⊎ HasOf writer sofar
    others differ = elim h [
      | inl (inl is) ↦ absurd (differ is)
      | inl (inr on) ↦ inl on
      | inr on ↦ inr on
    ]

    not_last : (xs : List Metadata) → (m.writer ≡ writer → ⊥) → Some m.writer ≡ Some writer → HasOf writer xs
    not_last xs differ e = absurd (differ (let is : m.writer ≡ writer = cc in is))

    taken : (m.writer ≡ writer) ⊎ (m.writer ≡ writer → ⊥) → HasOf writer (chosen_behind droppings (Some m.writer) ms (sofar ++ m ∷ []))
    taken (inl is) = again (Some m.writer) (sofar ++ m ∷ []) (λ _. has_pushed writer sofar m is) (inr (has_pushed writer sofar m is))
    taken (inr differ) = again (Some m.writer) (sofar ++ m ∷ []) (not_last (sofar ++ m ∷ []) differ) (elim (others differ) [
      | inl on ↦ inl on
      | inr on ↦ inr (has_push_before writer sofar m on)
    ])

    passed : (not (is_again last m) && is_open_to droppings m) ≡ false → (m.writer ≡ writer) ⊎ (m.writer ≡ writer → ⊥) → HasOf writer (chosen_behind droppings (Some m.writer) ms sofar)
    passed other (inl is) =
        let before : is_again last m ≡ true = is_true (is_again last m) (other_false (not (is_again last m)) (is_open_to droppings m) other (is_open m wrote is)) in
        let there : HasOf writer sofar = so (again_of last m before ∙ ap (λ (n : ℕ). Some n) is) in
        again (Some m.writer) sofar (λ _. there) (inr there)
    passed other (inr differ) = again (Some m.writer) sofar (not_last sofar differ) (others differ)

    one_more : HasOf writer (chosen_behind droppings last (m ∷ ms) sofar)
    one_more = elim (not (is_again last m) && is_open_to droppings m) as (λ c. (not (is_again last m) && is_open_to droppings m) ≡ c → HasOf writer (if c then chosen_behind droppings (Some m.writer) ms (sofar ++ m ∷ []) else chosen_behind droppings (Some m.writer) ms sofar)) [
      | true ↦ λ is. taken (cases_eq m.writer writer)
      | false ↦ λ is. passed is (cases_eq m.writer writer)
    ] refl

  has_behind : (last : Option ℕ) (ms sofar : List Metadata) → AllByRecursion HasWritten ms → (last ≡ Some writer → HasOf writer sofar) → HasOf writer ms ⊎ HasOf writer sofar → HasOf writer (chosen_behind droppings last ms sofar)
  has_behind last [] sofar wrote so (inl h) = absurd h
  has_behind last [] sofar wrote so (inr h) = h
  has_behind last (m ∷ ms) sofar wrote so h = one_more last m ms sofar wrote.0 so h (λ next more known there. has_behind next ms more wrote.1 known there)

  pub has_chosen : (ms : List Metadata) → AllByRecursion HasWritten (metadata_by_writer ms) → HasOf writer ms → HasOf writer (chosen droppings ms)
  has_chosen ms wrote h = has_behind None (metadata_by_writer ms) [] wrote (λ e. absurd (let clash : None ≡ Some writer = e in cc)) (inl (has_ordered writer ms h))

-- ---- only those that had written and have no packed index

-- the writer has no packed index
abbrev pub IsNew : List Dropping → ℕ → Type 0
IsNew droppings writer = is_packed (item_of (λ (d : Dropping). d.writer) writer droppings) ≡ false

abbrev pub IsOpen : List Dropping → Metadata → Type 0
IsOpen droppings m = (1 ≤ m.stamp) × IsNew droppings m.writer

both_parts : (a b c : Bool) → (a && (b && not c)) ≡ true → (b ≡ true) × (c ≡ false)
both_parts true true false e = (refl, refl)
both_parts true true true e = absurd (let clash : false ≡ true = e in cc)
both_parts true false c e = absurd (let clash : false ≡ true = e in cc)
both_parts false b c e = absurd (let clash : false ≡ true = e in cc)

at_least_one : (n : ℕ) → nat_lt 0 n ≡ true → 1 ≤ n
at_least_one n e = grind (arith, nat_tests, e)

open_behind : (droppings : List Dropping) (last : Option ℕ) (ms sofar : List Metadata) → AllByRecursion (IsOpen droppings) sofar → AllByRecursion (IsOpen droppings) (chosen_behind droppings last ms sofar)
open_behind droppings last [] sofar a = a
open_behind droppings last (m ∷ ms) sofar a =
    elim (not (is_again last m) && is_open_to droppings m) as (λ c. (not (is_again last m) && is_open_to droppings m) ≡ c → AllByRecursion (IsOpen droppings) (if c then chosen_behind droppings (Some m.writer) ms (sofar ++ m ∷ []) else chosen_behind droppings (Some m.writer) ms sofar)) [
      | true ↦ λ is. (let both = both_parts (not (is_again last m)) (nat_lt 0 m.stamp) (is_packed (item_of (λ (d : Dropping). d.writer) m.writer droppings)) is in
          open_behind droppings (Some m.writer) ms (sofar ++ m ∷ []) (all_push (IsOpen droppings) sofar m a (at_least_one m.stamp both.0, both.1)))
      | false ↦ λ is. open_behind droppings (Some m.writer) ms sofar a
    ] refl

pub chosen_open : (droppings : List Dropping) (ms : List Metadata) → AllByRecursion (IsOpen droppings) (chosen droppings ms)
chosen_open droppings ms = open_behind droppings None (metadata_by_writer ms) [] tt

-- ---- each that was listed

same_metas : (x y : List Metadata) → ◌≡◌ {A = Result (List Metadata) Stuck} (Ok x) (Ok y) → x ≡ y
same_metas x y e = cc

-- what stood in front stays in front
front_named : (writer : ℕ) (names : List Name) (sofar metas : List Metadata) → metas_named names sofar ≡ Ok metas → HasOf writer sofar → HasOf writer metas
front_named writer [] sofar metas h there = subst (HasOf writer) (same_metas sofar metas h) there
front_named writer (name ∷ names) sofar metas h there =
    let w = went_on (meta_in name) (damage (file_in metadata name) 0) (λ (m : Metadata). metas_named names (sofar ++ m ∷ [])) metas h in
    front_named writer names (sofar ++ w.0 ∷ []) metas w.2 (has_push_before writer sofar w.0 there)

pub has_named : (name : Name) (m : Metadata) (names : List Name) (sofar metas : List Metadata) → meta_in name ≡ Some m → is_listed name names ≡ true → metas_named names sofar ≡ Ok metas → HasOf m.writer metas
has_named name m [] sofar metas is listed h = absurd (let clash : false ≡ true = listed in cc)
has_named name m (x ∷ names) sofar metas is listed h =
    let w = went_on (meta_in x) (damage (file_in metadata x) 0) (λ (y : Metadata). metas_named names (sofar ++ y ∷ [])) metas h in
    by_name w.0 w.1 w.2 (λ there. has_named name m names (sofar ++ w.0 ∷ []) metas is there w.2) (same_name x name) refl
  where
    listed_then : (b : Bool) → same_name x name ≡ b → b ≡ false → is_listed name names ≡ true
    listed_then b e f = sym (ap (λ c. c || is_listed name names) (e ∙ f)) ∙ listed

    by_name : (y : Metadata) → meta_in x ≡ Some y → metas_named names (sofar ++ y ∷ []) ≡ Ok metas → (is_listed name names ≡ true → HasOf m.writer metas) → (b : Bool) → same_name x name ≡ b → HasOf m.writer metas
    by_name y found on again true e =
        let both : Some y ≡ Some m = sym found ∙ ap meta_in (name_eq x name e) ∙ is in
        let one : y.writer ≡ m.writer = cc in
        front_named m.writer names (sofar ++ y ∷ []) metas on (has_pushed m.writer sofar y one)
    by_name y found on again false e = again (listed_then false e refl)
