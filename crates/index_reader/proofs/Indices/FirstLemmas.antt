-- The first cover of each writer.
use Rattle.std.proofs.Common.{◌≡◌, ◌<◌, inl, inr, ℕ, nat_eq, true, false, List, [], ◌∷◌, ◌++◌, map, Option, None, Some, refl, ap, ◌∙◌, sym, subst}
use Rattle.std.specs.Prelude.{is_some, cond}
use Rattle.std.specs.List.{All, AllByRecursion}
use Rattle.std.specs.List.Sorted.{IsStrictlySortedBy}
use Rattle.std.specs.Map.{lookup, keys_of}
use Rattle.std.specs.BTreeMap.{BTreeMap, is_at, insert_entry}
use Rattle.std.specs.Ordering.{nat_cmp}
use Rattle.std.proofs.Common.{Less, Equal, Greater}
use Rattle.std.proofs.lemmas.List.Elements.{All-cons, All-nil}
use Rattle.plfs_types.specs.declared.entries.Cover.{Cover}
use Rattle.mount_model.specs.Names.{or_else}
use Rattle.index_reader.specs.Covered.{AreByWriter}
use Rattle.index_reader.specs.Firsts.{first_in as cover_in, AreAtOwn, HasFirsts}
use Rattle.index_reader.specs.Gathered.{AreFirstOf}
use Rattle.index_reader.proofs.Containers.OwnerLemmas.{compared}

abbrev pub values : List (ℕ × Cover) → List Cover
values es = map (λ (e : ℕ × Cover). e.1) es

-- ---- one more

with_one : (w : ℕ) (covers : List Cover) (c : Cover) → cover_in w (covers ++ c ∷ []) ≡ or_else (cover_in w covers) (cover_in w (c ∷ []))
with_one w [] c = refl
with_one w (d ∷ covers) c = elim (compared w d.writer) [
  | inl b ↦ simp b.differs (with_one w covers c)
  | inr (inl s) ↦ simp s.same refl
  | inr (inr a) ↦ simp a.differs (with_one w covers c)
]

keeps : (w : ℕ) (c : Cover) (o : Option Cover) → (w ≡ c.writer → is_some o ≡ true) → or_else o (cover_in w (c ∷ [])) ≡ o
keeps w c (Some d) has = refl
keeps w c None has = elim (compared w c.writer) [
  | inl b ↦ simp b.differs refl
  | inr (inl s) ↦ (let clash : false ≡ true = has s.eq in absurd (cc))
  | inr (inr a) ↦ simp a.differs refl
]

-- a writer that has a cover keeps it
pub kept_first : (w : ℕ) (covers : List Cover) (c : Cover) → is_some (cover_in c.writer covers) ≡ true → cover_in w (covers ++ c ∷ []) ≡ cover_in w covers
kept_first w covers c has = with_one w covers c ∙ keeps w c (cover_in w covers) (λ e. ap (λ (n : ℕ). is_some (cover_in n covers)) e ∙ has)

or_nothing : (o : Option Cover) → or_else o None ≡ o
or_nothing None = refl
or_nothing (Some d) = refl

none_there : (o : Option Cover) → is_some o ≡ false → o ≡ None
none_there None h = refl
none_there (Some d) h = absurd (cc)

-- a writer that has none takes it
pub taken_first : (q : ℕ) (covers : List Cover) (c : Cover) → is_some (cover_in c.writer covers) ≡ false
    → cond (is_at (nat_cmp c.writer) q) (Some c) (cover_in q covers) ≡ cover_in q (covers ++ c ∷ [])
taken_first q covers c absent = elim (compared c.writer q) [
  | inl b ↦ (let e : cover_in q (covers ++ c ∷ []) ≡ cover_in q covers = with_one q covers c ∙ simp b.apart (or_nothing (cover_in q covers)) in simp b.compares (sym e))
  | inr (inl s) ↦ (let none : cover_in q covers ≡ None = ap (λ (n : ℕ). cover_in n covers) (sym s.eq) ∙ none_there (cover_in c.writer covers) absent in
      let e : cover_in q (covers ++ c ∷ []) ≡ Some c = with_one q covers c ∙ ap (λ o. or_else o (cover_in q (c ∷ []))) none ∙ simp s.itself refl in simp s.compares (sym e))
  | inr (inr a) ↦ (let e : cover_in q (covers ++ c ∷ []) ≡ cover_in q covers = with_one q covers c ∙ simp a.apart (or_nothing (cover_in q covers)) in simp a.compares (sym e))
]

-- ---- in order

pub own_inserted : (w : ℕ) (c : Cover) (es : List (ℕ × Cover)) → w ≡ c.writer → AreAtOwn es → AreAtOwn (insert_entry nat_cmp es w c)
own_inserted w c [] own are = (own, tt)
own_inserted w c (e ∷ es) own are = elim (compared w e.0) [
  | inl b ↦ simp b.tests (own, are)
  | inr (inl s) ↦ simp (s.tests, s.itself) (sym s.eq ∙ own, are.1)
  | inr (inr a) ↦ simp (a.tests, a.apart) (are.0, own_inserted w c es own are.1)
]

values_found : (w : ℕ) (es : List (ℕ × Cover)) → AreAtOwn es → cover_in w (values es) ≡ lookup (is_at (nat_cmp w)) es
values_found w [] are = refl
values_found w (e ∷ es) are = elim (compared w e.0) [
  | inl b ↦ (let t : nat_eq e.1.writer w ≡ false = subst (λ n. nat_eq n w ≡ false) are.0 b.differs in simp (t, b.compares) (values_found w es are.1))
  | inr (inl s) ↦ (let t : nat_eq e.1.writer w ≡ true = subst (λ n. nat_eq n w ≡ true) are.0 s.same in simp (t, s.compares) refl)
  | inr (inr a) ↦ (let t : nat_eq e.1.writer w ≡ false = subst (λ n. nat_eq n w ≡ false) are.0 a.differs in simp (t, a.compares) (values_found w es are.1))
]

above : (n : ℕ) (es : List (ℕ × Cover)) → AreAtOwn es → AllByRecursion (λ k. nat_cmp n k ≡ Less) (keys_of es) → All (λ later. n < later) (map (λ (c : Cover). c.writer) (values es))
above n [] are all = All-nil (λ later. n < later)
above n (e ∷ es) are all = All-cons (λ later. n < later) e.1.writer (map (λ (c : Cover). c.writer) (values es))
    (subst (λ k. n < k) are.0 (elim (compared n e.0) [
      | inl b ↦ b.lt
      | inr (inl s) ↦ absurd (let clash : Less ≡ Equal = sym all.0 ∙ s.compares in cc)
      | inr (inr a) ↦ absurd (let clash : Less ≡ Greater = sym all.0 ∙ a.compares in cc)
    ]))
    (above n es are.1 all.1)

values_ascend : (es : List (ℕ × Cover)) → AreAtOwn es → IsStrictlySortedBy nat_cmp (keys_of es) → AreByWriter (values es)
unfolding IsStrictlySortedBy
values_ascend [] are rises = tt
values_ascend (e ∷ es) are rises = (subst (λ n. All (λ later. n < later) (map (λ (c : Cover). c.writer) (values es))) are.0 (above e.0 es are.1 rises.0), values_ascend es are.1 rises.1)

pub first_of : (told : List Cover) (firsts : BTreeMap ℕ Cover) → HasFirsts told firsts → AreFirstOf told (values firsts.entries)
first_of told firsts has = record { ascend = values_ascend firsts.entries has.own has.ordered; each = λ w. values_found w firsts.entries has.own ∙ has.finds w }
