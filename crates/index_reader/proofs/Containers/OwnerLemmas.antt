-- Writers with their hosts in a map are the plain list of them.
use Rattle.std.proofs.Common.{◌≡◌, ◌<◌, ◌⊎◌, inl, inr, ℕ, nat_lt, nat_eq, true, false, List, [], ◌∷◌, map, Option, None, Some, refl, ap, ◌∙◌, sym, subst, arith}
use Rattle.std.specs.Prelude.{is_some, option_map}
use Rattle.std.specs.List.{All, AllByRecursion}
use Rattle.std.specs.List.Sorted.{IsStrictlySortedBy}
use Rattle.std.specs.Map.{lookup, keys_of}
use Rattle.std.specs.BTreeMap.{is_at, insert_entry}
use Rattle.std.specs.Ordering.{nat_cmp}
use Rattle.std.proofs.Common.{Less, Equal, Greater}
use Rattle.std.specs.Cmp.{nat_cmp_is}
use Rattle.std.proofs.lemmas.Bool.{cases_lt}
use Rattle.std.proofs.lemmas.Bool.Decides.{nat_tests}
use Rattle.std.proofs.lemmas.List.Elements.{All-cons, All-nil}
use Rattle.index_reader.specs.declared.listing.Dropping.{Dropping}
use Rattle.index_reader.specs.declared.owners.Owner.{Owner}
use Rattle.index_reader.specs.Found.{item_of}
use Rattle.index_reader.specs.Listing.{AreByWriter}
use Rattle.mount_model.specs.Regular.{Ascend}
use Rattle.index_reader.specs.Scanning.{owner, has_writer, placed, Ascends}
use Rattle.index_reader.specs.Opening.{dropping_of, has_owner, is_of_host}

abbrev pub owners : List (ℕ × ℕ) → List Owner
owners es = map (λ (e : ℕ × ℕ). owner e.1 e.0) es

-- ---- how two numbers compare

pub record IsBelow (a b : ℕ) : Type 0 where
  pub lt : a < b
  pub compares : nat_cmp a b ≡ Less
  pub tests : nat_lt a b ≡ true
  pub differs : nat_eq b a ≡ false
  pub apart : nat_eq a b ≡ false

pub record IsSame (a b : ℕ) : Type 0 where
  pub eq : a ≡ b
  pub compares : nat_cmp a b ≡ Equal
  pub tests : nat_lt a b ≡ false
  pub same : nat_eq b a ≡ true
  pub itself : nat_eq a b ≡ true

pub record IsAbove (a b : ℕ) : Type 0 where
  pub gt : b < a
  pub compares : nat_cmp a b ≡ Greater
  pub tests : nat_lt a b ≡ false
  pub differs : nat_eq b a ≡ false
  pub apart : nat_eq a b ≡ false

pub compared : (a b : ℕ) → IsBelow a b ⊎ (IsSame a b ⊎ IsAbove a b)
compared a b = elim (cases_lt a b) [
  | inl lt ↦ inl (record { lt = lt; compares = sym (nat_cmp_is a b Less lt); tests = grind (arith, nat_tests); differs = grind (arith, nat_tests); apart = grind (arith, nat_tests) })
  | inr ge ↦ elim (cases_lt b a) [
    | inl gt ↦ inr (inr (record { gt = gt; compares = sym (nat_cmp_is a b Greater gt); tests = grind (arith, nat_tests); differs = grind (arith, nat_tests); apart = grind (arith, nat_tests) }))
    | inr le ↦ (let e : a ≡ b = omega arith in inr (inl (record { eq = e; compares = sym (nat_cmp_is a b Equal e); tests = grind (arith, nat_tests); same = grind (arith, nat_tests); itself = grind (arith, nat_tests) })))
  ]
]

-- ---- the owner of a writer

pub owner_found : (w : ℕ) (es : List (ℕ × ℕ)) → item_of (λ (o : Owner). o.writer) w (owners es) ≡ option_map (λ h. owner h w) (lookup (is_at (nat_cmp w)) es)
owner_found w [] = refl
owner_found w (e ∷ es) = elim (compared w e.0) [
  | inl b ↦ simp (b.differs, b.compares) (owner_found w es)
  | inr (inl s) ↦ simp (s.same, s.compares) (ap (λ (n : ℕ). Some (owner e.1 n)) (sym s.eq))
  | inr (inr a) ↦ simp (a.differs, a.compares) (owner_found w es)
]

some_mapped : {X Y : Type 0} (f : X → Y) (o : Option X) → is_some (option_map f o) ≡ is_some o
some_mapped f None = refl
some_mapped f (Some x) = refl

pub has_is : (w : ℕ) (es : List (ℕ × ℕ)) → has_writer w (owners es) ≡ is_some (lookup (is_at (nat_cmp w)) es)
has_is w es = ap is_some (owner_found w es) ∙ some_mapped (λ h. owner h w) (lookup (is_at (nat_cmp w)) es)

pub placed_is : (w h : ℕ) (es : List (ℕ × ℕ)) → has_writer w (owners es) ≡ false → owners (insert_entry nat_cmp es w h) ≡ placed (owner h w) (owners es)
placed_is w h [] absent = refl
placed_is w h (e ∷ es) absent = elim (compared w e.0) [
  | inl b ↦ simp b.tests refl
  | inr (inl s) ↦ (let clash : true ≡ false = simp s.same at absent in absurd (cc))
  | inr (inr a) ↦ simp (a.tests, a.apart) (ap (λ os. owner e.1 e.0 ∷ os) (placed_is w h es (simp a.differs at absent)))
]

pub has_owner-some : (o : Owner) (es : List (ℕ × ℕ)) (h : ℕ) → Some h ≡ lookup (is_at (nat_cmp o.writer)) es → has_owner o (owners es) ≡ nat_eq h o.host
has_owner-some o es h e = ap (is_of_host o.host) (owner_found o.writer es ∙ ap (option_map (λ h. owner h o.writer)) (sym e))

pub has_owner-none : (o : Owner) (es : List (ℕ × ℕ)) → None ≡ lookup (is_at (nat_cmp o.writer)) es → has_owner o (owners es) ≡ false
has_owner-none o es e = ap (is_of_host o.host) (owner_found o.writer es ∙ ap (option_map (λ h. owner h o.writer)) (sym e))

-- ---- in order

above : (n : ℕ) (es : List (ℕ × ℕ)) → AllByRecursion (λ k. nat_cmp n k ≡ Less) (keys_of es) → All (λ later. n < later) (map (λ (o : Owner). o.writer) (owners es))
above n [] all = All-nil (λ later. n < later)
above n (e ∷ es) all = All-cons (λ later. n < later) e.0 (map (λ (o : Owner). o.writer) (owners es))
    (elim (compared n e.0) [
      | inl b ↦ b.lt
      | inr (inl s) ↦ absurd (let clash : Less ≡ Equal = sym all.0 ∙ s.compares in cc)
      | inr (inr a) ↦ absurd (let clash : Less ≡ Greater = sym all.0 ∙ a.compares in cc)
    ])
    (above n es all.1)

pub owners_ascend : (es : List (ℕ × ℕ)) → IsStrictlySortedBy nat_cmp (keys_of es) → Ascends (owners es)
unfolding IsStrictlySortedBy
owners_ascend [] rises = tt
owners_ascend (e ∷ es) rises = (above e.0 es rises.0, owners_ascend es rises.1)

same_writers : (packs os : List Owner) → map (λ (o : Owner). o.writer) os ≡ map (λ (d : Dropping). d.writer) (map (dropping_of packs) os)
same_writers packs [] = refl
same_writers packs (o ∷ os) = ap (λ ws. o.writer ∷ ws) (same_writers packs os)

pub droppings_ascend : (packs os : List Owner) → Ascends os → AreByWriter (map (dropping_of packs) os)
droppings_ascend packs os rises = subst Ascend (same_writers packs os) rises
