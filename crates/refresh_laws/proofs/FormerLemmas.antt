-- What a former cut tells of a later one.
use Rattle.std.proofs.Common.{◌≡◌, ℕ, ◌+◌, ◌≤◌, nat_eq, true, false, List, [], ◌∷◌, length, take, Some, None, refl, ap, sym, ◌∙◌, ◌⊎◌, inl, inr, subst, arith}
use Rattle.std.specs.Prelude.{if◌then◌else◌}
use Rattle.std.proofs.lemmas.Bool.{cond-true}
use Rattle.std.proofs.lemmas.Bool.Decides.{nat_tests}
use Rattle.plfs_types.specs.declared.entries.Cover.{Cover}
use Rattle.plfs_types.specs.declared.entries.Entry.{Entry}
use Rattle.plain_file.proofs.Facts.{Among, SameElements}
use Rattle.mount_sound.specs.Ledger.{entries_in}
use Rattle.mount_sound.proofs.Facts.{take_less}
use Rattle.index_reader.specs.Covered.{cover_of, or_nothing}
use Rattle.index_reader.specs.Found.{item_of}
use Rattle.index_reader.specs.Sharing.{covered}
use Rattle.reader_laws.specs.Moments.{Moment, Dropping, Grows, Stood, issued_by, landed}
use Rattle.reader_laws.specs.Gathering.{Gathered, IsAdmissible, CoversLanded}
use Rattle.reader_laws.specs.View.{WritersRise, covered_in, own_entries, writes_in}
use Rattle.reader_laws.proofs.Gathered.Facts.{alike, among_left, among_right, entries_stay, length-entries, length_taken, one_gathered, prefix_of, stood_grows}
use Rattle.reader_laws.proofs.Gathered.OpenReaders.Viewing.{entries_split}
use Rattle.reader_laws.specs.Covering.{cover_with, empty_cover, counts_in}
use Rattle.reader_laws.proofs.OpenReaders.Counts.{AreRightFor, its_cover, itself, none_in, of_writer, one_in, covered_other, take_none, writer_of}
use Rattle.reader_laws.proofs.OpenReaders.Cuts.{either_part}

-- ---- the covers of a cut

-- each counts some entries of one of the cut
pub counts_of : (end : Moment) (cut : List Gathered) (c : Cover) → Among c (counts_in end cut) → (g : Gathered) × Among g cut × (g.dropping.writer ≡ c.writer) × (1 ≤ c.count)
counts_of end [] c a = absurd a
counts_of end (g ∷ cut) c a = elim (either_part c (covered (its_cover end g)) (counts_in end cut) a) as (λ _. (h : Gathered) × Among h (g ∷ cut) × (h.dropping.writer ≡ c.writer) × (1 ≤ c.count)) [
  | inl mine ↦ (let m = only (its_cover end g) mine in (g, inl refl, ap writer_of (sym m.0), m.1))
  | inr others ↦ (let t = counts_of end cut c others in (t.0, inr t.1, t.2, t.3))
]
  where
    some : (n : ℕ) → nat_eq n 0 ≡ false → 1 ≤ n
    some n t = grind (arith, nat_tests)

    only : (d : Cover) → Among c (covered d) → (c ≡ d) × (1 ≤ c.count)
    only d m = elim (nat_eq d.count 0) as (λ t. nat_eq d.count 0 ≡ t → Among c (if t then [] else d ∷ []) → (c ≡ d) × (1 ≤ c.count)) [
      | true ↦ λ t n. absurd n
      | false ↦ λ t n. elim n [ inl e ↦ (e, subst (λ (x : Cover). 1 ≤ x.count) (sym e) (some d.count t)) | inr none ↦ absurd none ]
    ] refl m

-- of none there is no cover
pub none_told : (end : Moment) (cut : List Gathered) (w : ℕ) → ((g : Gathered) → Among g cut → g.dropping.writer ≡ w → ⊥) → cover_of w (counts_in end cut) ≡ empty_cover w
none_told end cut w none = ap (or_nothing w) (none_in end w cut (λ h a. covered_other w (its_cover end h) (λ e. none h a e)))

no_entries : (es : List Entry) → length es ≡ 0 → es ≡ []
no_entries [] e = refl
no_entries (x ∷ es) e = absurd (omega (arith, e))

nothing_counted : (w : ℕ) (es : List Entry) → length es ≡ 0 → empty_cover w ≡ cover_with (empty_cover w) es
nothing_counted w es e = ap (cover_with (empty_cover w)) (sym (no_entries es e))

-- of each of the cut it is that of its entries
pub cover_told : (end : Moment) (room : ℕ) (cut : List Gathered) (g : Gathered) → WritersRise room cut → Among g cut → cover_of g.dropping.writer (counts_in end cut) ≡ its_cover end g
cover_told end room cut g rise a =
    ap (or_nothing g.dropping.writer) (one_in end cut g a (λ h b e. one_gathered room cut h g rise b a e)) ∙ alone (its_cover end g) refl
  where
    alone : (d : Cover) → d ≡ its_cover end g → or_nothing g.dropping.writer (item_of writer_of g.dropping.writer (covered d)) ≡ d
    alone d is = elim (nat_eq d.count 0) as (λ t. nat_eq d.count 0 ≡ t → or_nothing g.dropping.writer (item_of writer_of g.dropping.writer (if t then [] else d ∷ [])) ≡ d) [
      | true ↦ λ t. (let zero_ : d.count ≡ 0 = alike d.count 0 t in
          let none : length (own_entries end g) ≡ 0 = omega (arith, zero_, ap (λ (c : Cover). c.count) is) in
          nothing_counted g.dropping.writer (own_entries end g) none ∙ sym is)
      | false ↦ λ t. (let writer : d.writer ≡ g.dropping.writer = ap writer_of is in
          ap (or_nothing g.dropping.writer) (cond-true (nat_eq d.writer g.dropping.writer) (Some d) None (subst (λ n. nat_eq d.writer n ≡ true) writer (itself d.writer))))
    ] refl

-- ---- a cut, and a former one

-- what is covered of it is one of the former cut
pub record IsFormer (former : List Gathered) (g : Gathered) : Type 0 where
  pub of : Gathered
  pub among : Among of former
  pub dropping : of.dropping ≡ g.dropping
  pub count : g.covered ≡ of.count

module _ (start end from last : Moment) (room : ℕ) (former cut : List Gathered) (rise_f : WritersRise room former) (rise : WritersRise room cut) (was : IsAdmissible start end former) (grows : Grows end from)
    (complete : (d : Dropping) → d.room ≡ room → Stood from d → (g : Gathered) × Among g cut × (g.dropping ≡ d)) where
  its_room : (gs : List Gathered) (g : Gathered) → WritersRise room gs → Among g gs → g.dropping.room ≡ room
  its_room [] g rise a = absurd a
  its_room (h ∷ gs) g rise (inl e) = ap (λ (x : Gathered). x.dropping.room) e ∙ rise.0
  its_room (h ∷ gs) g rise (inr a) = its_room gs g rise.2 a

  -- each of the former ones is there
  pub still : (f : Gathered) → Among f former → (g : Gathered) × Among g cut × (g.dropping ≡ f.dropping)
  still f a = complete f.dropping (its_room former f rise_f a) (stood_grows end from f.dropping grows (prefix_of start end former f was a).stands)

  -- by its writer
  pub same_dropping : (f g : Gathered) → Among f former → Among g cut → f.dropping.writer ≡ g.dropping.writer → f.dropping ≡ g.dropping
  same_dropping f g a b same =
      let s = still f a in
      let is : s.0 ≡ g = one_gathered room cut s.0 g rise s.1 b (ap (λ (d : Dropping). d.writer) s.2 ∙ same) in
      sym s.2 ∙ ap (λ (x : Gathered). x.dropping) is

  -- so many entries of the former one
  pub own_length : (f : Gathered) → Among f former → length (own_entries end f) ≡ f.count
  own_length f a = length_taken f.count (entries_in (issued_by end f.dropping)) (omega (arith, (prefix_of start end former f was a).were_issued, length-entries (issued_by end f.dropping)))

  pub count_told : (f : Gathered) (w : ℕ) → Among f former → f.dropping.writer ≡ w → (cover_of w (counts_in end former)).count ≡ f.count
  count_told f w a same =
      let is : (cover_of f.dropping.writer (counts_in end former)).count ≡ 0 + length (own_entries end f) = ap (λ (c : Cover). c.count) (cover_told end room former f rise_f a) in
      let here : (cover_of f.dropping.writer (counts_in end former)).count ≡ f.count = omega (arith, is, own_length f a) in
      ap (λ n. (cover_of n (counts_in end former)).count) (sym same) ∙ here

  pub formerly : (g : Gathered) → Among g cut → g.covered ≡ (cover_of g.dropping.writer (counts_in end former)).count → IsFormer former g ⊎ (g.covered ≡ 0)
  formerly g a is = elim (of_writer g.dropping.writer former) as (λ _. IsFormer former g ⊎ (g.covered ≡ 0)) [
    | inl (f, b, e) ↦ inl (record { of = f; among = b; dropping = same_dropping f g b a e; count = is ∙ count_told f g.dropping.writer b e })
    | inr none ↦ inr (is ∙ ap (λ (c : Cover). c.count) (none_told end former g.dropping.writer none))
  ]

  -- it had landed
  pub landed_before : (g : Gathered) → IsFormer former g ⊎ (g.covered ≡ 0) → CoversLanded from g
  landed_before g (inl f) =
      let p = prefix_of start end former f.of was f.among in
      let then_ : f.of.count ≤ landed from f.of.dropping = omega (arith, p.most, grows.landed f.of.dropping p.stands.is_item) in
      let here : f.of.count ≤ landed from g.dropping = subst (λ d. f.of.count ≤ landed from d) f.dropping then_ in
      omega (arith, here, f.count)
  landed_before g (inr none) = omega (arith, none)

  -- it is of the first entries that were issued
  module _ (on : Grows end last) where
    own_stay : (f : Gathered) → Among f former → take f.count (entries_in (issued_by last f.dropping)) ≡ own_entries end f
    own_stay f a = entries_stay end last f.dropping f.count on (prefix_of start end former f was a).were_issued

    pub front_is : (g : Gathered) (f : IsFormer former g) → g.covered ≤ g.count → take g.covered (own_entries last g) ≡ own_entries end f.of
    front_is g f few =
        take_less g.covered g.count (entries_in (issued_by last g.dropping)) few
        ∙ ap (λ n. take n (entries_in (issued_by last g.dropping))) f.count
        ∙ ap (λ d. take f.of.count (entries_in (issued_by last d))) (sym f.dropping)
        ∙ own_stay f.of f.among

    -- the covers are right
    pub right_still : AreRightFor last cut (counts_in end former)
    right_still = record {
      right = λ g a. elim (of_writer g.dropping.writer former) as (λ _. cover_of g.dropping.writer (counts_in end former) ≡ cover_with (empty_cover g.dropping.writer) (take (cover_of g.dropping.writer (counts_in end former)).count (entries_in (issued_by last g.dropping)))) [
        | inl (f, b, e) ↦
            ap (λ n. cover_of n (counts_in end former)) (sym e) ∙ cover_told end room former f rise_f b
            ∙ ap (cover_with (empty_cover f.dropping.writer)) (sym (own_stay f b))
            ∙ ap (λ d. cover_with (empty_cover d.writer) (take f.count (entries_in (issued_by last d)))) (same_dropping f g b a e)
            ∙ ap (λ n. cover_with (empty_cover g.dropping.writer) (take n (entries_in (issued_by last g.dropping)))) (sym (count_told f g.dropping.writer b e))
        | inr none ↦
            (let is : cover_of g.dropping.writer (counts_in end former) ≡ empty_cover g.dropping.writer = none_told end former g.dropping.writer none in
            is ∙ ap (cover_with (empty_cover g.dropping.writer)) (sym (take_none (entries_in (issued_by last g.dropping))))
            ∙ ap (λ (c : Cover). cover_with (empty_cover g.dropping.writer) (take c.count (entries_in (issued_by last g.dropping)))) (sym is))
      ];
      within = λ c a. (let f = counts_of end former c a in let s = still f.0 f.1 in (s.0, s.1, ap (λ (d : Dropping). d.writer) s.2 ∙ f.2));
      some = λ c a. (counts_of end former c a).3;
    }

    -- ---- the entries

    covered_among : (gs : List Gathered) (e : Entry) → Among e (covered_in last gs) → (g : Gathered) × Among g gs × Among e (take g.covered (own_entries last g))
    covered_among [] e a = absurd a
    covered_among (g ∷ gs) e a = elim (either_part e (take g.covered (own_entries last g)) (covered_in last gs) a) as (λ _. (h : Gathered) × Among h (g ∷ gs) × Among e (take h.covered (own_entries last h))) [
      | inl mine ↦ (g, inl refl, mine)
      | inr others ↦ (let t = covered_among gs e others in (t.0, inr t.1, t.2))
    ]

    among_covered : (gs : List Gathered) (g : Gathered) (e : Entry) → Among g gs → Among e (take g.covered (own_entries last g)) → Among e (covered_in last gs)
    among_covered [] g e a m = absurd a
    among_covered (h ∷ gs) g e (inl same) m = among_left e (take h.covered (own_entries last h)) (covered_in last gs) (subst (λ (x : Gathered). Among e (take x.covered (own_entries last x))) same m)
    among_covered (h ∷ gs) g e (inr a) m = among_right e (take h.covered (own_entries last h)) (covered_in last gs) (among_covered gs g e a m)

    writes_among : (gs : List Gathered) (e : Entry) → Among e (entries_in (writes_in end gs)) → (g : Gathered) × Among g gs × Among e (own_entries end g)
    writes_among [] e a = absurd a
    writes_among (g ∷ gs) e a = elim (either_part e (own_entries end g) (entries_in (writes_in end gs)) (subst (Among e) (entries_split end g gs) a)) as (λ _. (h : Gathered) × Among h (g ∷ gs) × Among e (own_entries end h)) [
      | inl mine ↦ (g, inl refl, mine)
      | inr others ↦ (let t = writes_among gs e others in (t.0, inr t.1, t.2))
    ]

    among_writes : (gs : List Gathered) (g : Gathered) (e : Entry) → Among g gs → Among e (own_entries end g) → Among e (entries_in (writes_in end gs))
    among_writes [] g e a m = absurd a
    among_writes (h ∷ gs) g e (inl same) m = subst (Among e) (sym (entries_split end h gs)) (among_left e (own_entries end h) (entries_in (writes_in end gs)) (subst (λ (x : Gathered). Among e (own_entries end x)) same m))
    among_writes (h ∷ gs) g e (inr a) m = subst (Among e) (sym (entries_split end h gs)) (among_right e (own_entries end h) (entries_in (writes_in end gs)) (among_writes gs g e a m))

    none_taken : (n : ℕ) (es : List Entry) (e : Entry) → n ≡ 0 → Among e (take n es) → ⊥
    none_taken n es e zero_ m = subst (Among e) (ap (λ k. take k es) zero_ ∙ take_none es) m

    -- What is covered of the cut are the writes of the former one.
    pub covered_same : ((g : Gathered) → Among g cut → g.covered ≡ (cover_of g.dropping.writer (counts_in end former)).count) → ((g : Gathered) → Among g cut → g.covered ≤ g.count) → SameElements (covered_in last cut) (entries_in (writes_in end former))
    covered_same is few = record {
      to = λ e m. (let c = covered_among cut e m in elim (formerly c.0 c.1 (is c.0 c.1)) as (λ _. Among e (entries_in (writes_in end former))) [
        | inl f ↦ among_writes former f.of e f.among (subst (Among e) (front_is c.0 f (few c.0 c.1)) c.2)
        | inr none ↦ absurd (none_taken c.0.covered (own_entries last c.0) e none c.2)
      ]);
      back = λ e m. (let w = writes_among former e m in
          let s = still w.0 w.1 in
          let f : IsFormer former s.0 = record { of = w.0; among = w.1; dropping = sym s.2; count = is s.0 s.1 ∙ count_told w.0 s.0.dropping.writer w.1 (ap (λ (d : Dropping). d.writer) (sym s.2)) } in
          among_covered cut s.0 e s.1 (subst (Among e) (sym (front_is s.0 f (few s.0 s.1))) w.2));
    }

    -- The cut is not below the former one.
    pub not_below : ((g : Gathered) → Among g cut → g.covered ≡ (cover_of g.dropping.writer (counts_in end former)).count) → ((g : Gathered) → Among g cut → g.covered ≤ g.count) → (f : Gathered) → Among f former → (h : Gathered) × Among h cut × (h.dropping ≡ f.dropping) × (f.count ≤ h.count)
    not_below is few f a =
        let s = still f a in
        let count : s.0.covered ≡ f.count = is s.0 s.1 ∙ count_told f s.0.dropping.writer a (ap (λ (d : Dropping). d.writer) (sym s.2)) in
        (s.0, s.1, s.2, omega (arith, count, few s.0 s.1))
