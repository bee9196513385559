-- The covers of an opened reader are the counts of its cut.
use Rattle.std.proofs.Common.{◌≡◌, ℕ, ◌+◌, ◌≤◌, ◌<◌, nat_eq, true, false, List, [], ◌∷◌, ◌++◌, length, map, take, drop, Some, None, refl, ap, sym, ◌∙◌, ◌⊎◌, inl, inr, subst, arith}
use Rattle.std.specs.Prelude.{if◌then◌else◌, slice_get}
use Rattle.std.specs.List.{AllByRecursion}
use Rattle.std.proofs.lemmas.Bool.{cases_eq, cases_order, cond-true, cond-false}
use Rattle.std.proofs.lemmas.Bool.Decides.{nat_tests}
use Rattle.std.proofs.lemmas.List.{take-append-drop}
use Rattle.std.proofs.lemmas.List.Elements.{recursion_from_All}
use Rattle.plfs_types.specs.declared.entries.Cover.{Cover}
use Rattle.plfs_types.specs.declared.entries.Entry.{Entry}
use Rattle.plain_file.proofs.Facts.{Among, cases_Option}
use Rattle.flat_format.specs.Covers.{AreCovers}
use Rattle.store_api.specs.declared.tree.Room.{Room}
use Rattle.mount_sound.specs.Flats.{AreCovered, IsCovered}
use Rattle.mount_sound.specs.Ledger.{entries_in}
use Rattle.mount_sound.proofs.Facts.{take_less}
use Rattle.index_entry.specs.Entries.{logged, last_stamp}
use Rattle.index_reader.specs.Covered.{cover_of, or_nothing, AreByWriter}
use Rattle.index_reader.specs.Found.{item_of}
use Rattle.index_reader.specs.Sharing.{covered}
use Rattle.reader_laws.specs.Moments.{Moment, IsSoundAt, Dropping, issued_by, Grows}
use Rattle.reader_laws.specs.Gathering.{Gathered, IsPrefixOf}
use Rattle.reader_laws.specs.View.{own_entries, WritersRise}
use Rattle.reader_laws.proofs.Gathered.Facts.{HasAll, alike, count_landed, front, issued_grows, landed_whole, length-entries, length_taken, of_cover, one_gathered, stood}
use Rattle.reader_laws.specs.Covering.{cover_with, empty_cover, counts_in}
use Rattle.reader_laws.specs.Sharing.{cover_before, covers_with}
use Rattle.reader_laws.proofs.Droppings.Checking.{cover_with-append}
use Rattle.reader_laws.proofs.OpenReaders.Cuts.{unmap}

abbrev pub writer_of : Cover → ℕ
writer_of c = c.writer

-- ---- what is right of a flattened index's covers

-- Of each of the cut the cover tells of the first entries that its writer issued, and each cover is of one of the cut.
pub record AreRightFor (end : Moment) (cut : List Gathered) (covers : List Cover) : Type 0 where
  pub right : (g : Gathered) → Among g cut → cover_of g.dropping.writer covers ≡ cover_with (empty_cover g.dropping.writer) (take (cover_of g.dropping.writer covers).count (entries_in (issued_by end g.dropping)))
  pub within : (c : Cover) → Among c covers → (g : Gathered) × Among g cut × (g.dropping.writer ≡ c.writer)
  pub some : (c : Cover) → Among c covers → 1 ≤ c.count

pub take_none : (es : List Entry) → take 0 es ≡ []
take_none [] = refl
take_none (e ∷ es) = refl

pub none_right : (end : Moment) (cut : List Gathered) → AreRightFor end cut []
none_right end cut = record {
  right = λ g a. ap (cover_with (empty_cover g.dropping.writer)) (sym (take_none (entries_in (issued_by end g.dropping))));
  within = λ c a. absurd a;
  some = λ c a. absurd a;
}

length_front : (n : ℕ) (es : List Entry) → n ≤ length es → length (take n es) ≡ n
length_front n es l = length_taken n es l

from_none : (n : ℕ) → 0 + n ≡ n
from_none n = omega arith

module _ (m : Moment) (s : IsSoundAt m) (number : ℕ) (room : Room) (there : slice_get s.shape.tree.rooms number ≡ Some room) (end : Moment) (grows : Grows m end) where
  -- a cover tells of the first entries of its dropping
  cover_right : (c : Cover) (is : IsCovered room c) → c ≡ cover_with (empty_cover c.writer) (take c.count (entries_in (issued_by end (of_cover m s number room there c is))))
  cover_right c is =
      let d : Dropping = of_cover m s number room there c is in
      let es : List Entry = entries_in (issued_by end d) in
      let same = front m s number room there end grows c is in
      let few : c.count ≤ length es = omega (arith, count_landed m s number room there c is, landed_whole m s d is.stands.is_item, issued_grows m end d grows, length-entries (issued_by end d)) in
      let count : c.count ≡ 0 + length (take c.count es) = sym (from_none (length (take c.count es)) ∙ length_front c.count es few) in
      let bytes : c.bytes ≡ 0 + logged (take c.count es) = is.sum ∙ ap logged same ∙ sym (from_none (logged (take c.count es))) in
      let stamp : c.stamp ≡ last_stamp 0 (take c.count es) = is.latest ∙ ap (last_stamp 0) same in
      λ i. record { writer = c.writer; count = count i; bytes = bytes i; stamp = stamp i }

  -- so does the cover of each of the cut
  its_right : (cut : List Gathered) (g : Gathered) (covers : List Cover) (entries : List Entry) → WritersRise number cut → AreCovered room covers entries → HasAll m number 0 cut → Among g cut
      → cover_of g.dropping.writer covers ≡ cover_with (empty_cover g.dropping.writer) (take (cover_of g.dropping.writer covers).count (entries_in (issued_by end g.dropping)))
  its_right cut g [] entries rise are has a = ap (cover_with (empty_cover g.dropping.writer)) (sym (take_none (entries_in (issued_by end g.dropping))))
  its_right cut g (c ∷ covers) entries rise are has a = elim (nat_eq c.writer g.dropping.writer) as (λ b. nat_eq c.writer g.dropping.writer ≡ b
      → or_nothing g.dropping.writer (if b then Some c else item_of writer_of g.dropping.writer covers) ≡ cover_with (empty_cover g.dropping.writer) (take (or_nothing g.dropping.writer (if b then Some c else item_of writer_of g.dropping.writer covers)).count (entries_in (issued_by end g.dropping)))) [
        | true ↦ λ e.
            let h = has (of_cover m s number room there c are.0) refl (omega arith) (stood m s number room there c are.0) in
            let writer : c.writer ≡ g.dropping.writer = alike c.writer g.dropping.writer e in
            let same : g ≡ h.0 = one_gathered number cut g h.0 rise a h.1 (sym writer ∙ sym (ap (λ (d : Dropping). d.writer) h.2)) in
            let dropping : g.dropping ≡ of_cover m s number room there c are.0 = ap (λ (x : Gathered). x.dropping) same ∙ h.2 in
            cover_right c are.0 ∙ ap (λ w. cover_with (empty_cover w) (take c.count (entries_in (issued_by end (of_cover m s number room there c are.0))))) writer ∙ ap (λ d. cover_with (empty_cover g.dropping.writer) (take c.count (entries_in (issued_by end d)))) (sym dropping)
        | false ↦ λ e. its_right cut g covers are.1.0 rise are.1.2 has a
      ] refl

  its_gathered : (cut : List Gathered) (covers : List Cover) (entries : List Entry) → AreCovered room covers entries → HasAll m number 0 cut → (c : Cover) → Among c covers → (g : Gathered) × Among g cut × (g.dropping.writer ≡ c.writer)
  its_gathered cut [] entries are has c a = absurd a
  its_gathered cut (x ∷ covers) entries are has c (inl e) =
      let h = has (of_cover m s number room there x are.0) refl (omega arith) (stood m s number room there x are.0) in
      (h.0, h.1, ap (λ (d : Dropping). d.writer) h.2 ∙ ap writer_of (sym e))
  its_gathered cut (x ∷ covers) entries are has c (inr a) = its_gathered cut covers are.1.0 are.1.2 has c a

  some_counted : (covers : List Cover) → AreCovers covers → (c : Cover) → Among c covers → 1 ≤ c.count
  some_counted [] valid c a = absurd a
  some_counted (x ∷ covers) valid c (inl e) = subst (λ (y : Cover). 1 ≤ y.count) (sym e) valid.0.counted
  some_counted (x ∷ covers) valid c (inr a) = some_counted covers valid.2 c a

  pub flat_is_right : (cut : List Gathered) (covers : List Cover) (entries : List Entry) → WritersRise number cut → AreCovers covers → AreCovered room covers entries → HasAll m number 0 cut → AreRightFor end cut covers
  flat_is_right cut covers entries rise valid are has = record {
    right = λ g a. its_right cut g covers entries rise are has a;
    within = its_gathered cut covers entries are has;
    some = some_counted covers valid;
  }

-- ---- the counts of what was gathered

-- the cover of all entries of one of the cut
abbrev pub its_cover : Moment → Gathered → Cover
its_cover end g = cover_with (empty_cover g.dropping.writer) (own_entries end g)

pub cover_is : (start end : Moment) (cut : List Gathered) (covers : List Cover) (g : Gathered) → AreRightFor end cut covers → Among g cut → IsPrefixOf start end g → g.covered ≡ (cover_before covers g).count → g.covered ≤ g.count → cover_with (cover_before covers g) g.tail ≡ its_cover end g
cover_is start end cut covers g r a p count few =
    let es : List Entry = entries_in (issued_by end g.dropping) in
    let none : Cover = empty_cover g.dropping.writer in
    let before : cover_before covers g ≡ cover_with none (take g.covered (take g.count es)) =
    r.right g a ∙ ap (λ n. cover_with none (take n es)) (sym count) ∙ ap (cover_with none) (sym (take_less g.covered g.count es few)) in
    ap (λ c. cover_with c g.tail) before ∙ ap (cover_with (cover_with none (take g.covered (take g.count es)))) p.entries
    ∙ cover_with-append none (take g.covered (take g.count es)) (drop g.covered (take g.count es)) ∙ ap (cover_with none) (take-append-drop g.covered (take g.count es))

pub counts_are : (end : Moment) (covers : List Cover) (gs : List Gathered) → ((g : Gathered) → Among g gs → cover_with (cover_before covers g) g.tail ≡ its_cover end g) → covers_with covers gs ≡ counts_in end gs
counts_are end covers [] is = refl
counts_are end covers (g ∷ gs) is = ap (λ c. covered c ++ covers_with covers gs) (is g (inl refl)) ∙ ap (λ l. covered (its_cover end g) ++ l) (counts_are end covers gs (λ h a. is h (inr a)))

-- ---- the cover of a writer

pub item_first : (w : ℕ) (a b : List Cover) (c : Cover) → item_of writer_of w a ≡ Some c → item_of writer_of w (a ++ b) ≡ Some c
item_first w [] b c h = absurd (cc)
item_first w (x ∷ a) b c h = elim (nat_eq x.writer w) as (λ t. (if t then Some x else item_of writer_of w a) ≡ Some c → (if t then Some x else item_of writer_of w (a ++ b)) ≡ Some c) [
  | true ↦ λ e. e
  | false ↦ λ e. item_first w a b c e
] h

pub item_rest : (w : ℕ) (a b : List Cover) → item_of writer_of w a ≡ None → item_of writer_of w (a ++ b) ≡ item_of writer_of w b
item_rest w [] b h = refl
item_rest w (x ∷ a) b h = elim (nat_eq x.writer w) as (λ t. (if t then Some x else item_of writer_of w a) ≡ None → (if t then Some x else item_of writer_of w (a ++ b)) ≡ item_of writer_of w b) [
  | true ↦ λ e. absurd (cc)
  | false ↦ λ e. item_rest w a b e
] h

item_among : (w : ℕ) (a : List Cover) (c : Cover) → item_of writer_of w a ≡ Some c → Among c a × (c.writer ≡ w)
item_among w [] c h = absurd (cc)
item_among w (x ∷ a) c h = elim (nat_eq x.writer w) as (λ t. nat_eq x.writer w ≡ t → (if t then Some x else item_of writer_of w a) ≡ Some c → Among c (x ∷ a) × (c.writer ≡ w)) [
  | true ↦ λ t e. (let same : x ≡ c = cc in (inl (sym same), ap writer_of (sym same) ∙ alike x.writer w t))
  | false ↦ λ t e. (let rest = item_among w a c e in (inr rest.0, rest.1))
] refl h

another : (a b : ℕ) → (a ≡ b → ⊥) → nat_eq a b ≡ false
another a b other = grind (arith, nat_tests)

pub itself : (a : ℕ) → nat_eq a a ≡ true
itself a = grind (arith, nat_tests)

-- a cover that counts entries, by its writer
pub covered_other : (w : ℕ) (c : Cover) → (c.writer ≡ w → ⊥) → item_of writer_of w (covered c) ≡ None
covered_other w c other = elim (nat_eq c.count 0) as (λ t. item_of writer_of w (if t then [] else c ∷ []) ≡ None) [
  | true ↦ refl
  | false ↦ cond-false (nat_eq c.writer w) (Some c) None (another c.writer w other)
]

covered_none : (c : Cover) → item_of writer_of c.writer (covered c) ≡ None → c.count ≡ 0
covered_none c h = elim (nat_eq c.count 0) as (λ t. nat_eq c.count 0 ≡ t → item_of writer_of c.writer (if t then [] else c ∷ []) ≡ None → c.count ≡ 0) [
  | true ↦ λ t e. alike c.count 0 t
  | false ↦ λ t e. (let clash : Some c ≡ None = sym (cond-true (nat_eq c.writer c.writer) (Some c) None (itself c.writer)) ∙ e in absurd (cc))
] refl h

-- ---- in what was gathered

pub none_in : (end : Moment) (w : ℕ) (gs : List Gathered) → ((h : Gathered) → Among h gs → item_of writer_of w (covered (its_cover end h)) ≡ None) → item_of writer_of w (counts_in end gs) ≡ None
none_in end w [] none = refl
none_in end w (g ∷ gs) none = item_rest w (covered (its_cover end g)) (counts_in end gs) (none g (inl refl)) ∙ none_in end w gs (λ h a. none h (inr a))

-- the cover of the one of its writer
pub one_in : (end : Moment) (gs : List Gathered) (g : Gathered) → Among g gs → ((h : Gathered) → Among h gs → h.dropping.writer ≡ g.dropping.writer → h ≡ g) → item_of writer_of g.dropping.writer (counts_in end gs) ≡ item_of writer_of g.dropping.writer (covered (its_cover end g))
one_in end [] g a one = absurd a
one_in end (h ∷ gs) g a one = elim (cases_eq h.dropping.writer g.dropping.writer) as (λ _. item_of writer_of g.dropping.writer (counts_in end (h ∷ gs)) ≡ item_of writer_of g.dropping.writer (covered (its_cover end g))) [
  | inl same ↦ first (one h (inl refl) same)
  | inr other ↦ item_rest g.dropping.writer (covered (its_cover end h)) (counts_in end gs) (covered_other g.dropping.writer (its_cover end h) other) ∙ one_in end gs g (later other a) (λ x b. one x (inr b))
]
  where
    later : (h.dropping.writer ≡ g.dropping.writer → ⊥) → Among g (h ∷ gs) → Among g gs
    later other (inl e) = absurd (other (ap (λ (x : Gathered). x.dropping.writer) (sym e)))
    later other (inr b) = b

    by_writer : (x : Gathered) → Among x gs → item_of writer_of g.dropping.writer (covered (its_cover end g)) ≡ None → item_of writer_of g.dropping.writer (covered (its_cover end x)) ≡ None
    by_writer x b none = elim (cases_eq x.dropping.writer g.dropping.writer) as (λ _. item_of writer_of g.dropping.writer (covered (its_cover end x)) ≡ None) [
      | inl e ↦ subst (λ (y : Gathered). item_of writer_of g.dropping.writer (covered (its_cover end y)) ≡ None) (sym (one x (inr b) e)) none
      | inr other ↦ covered_other g.dropping.writer (its_cover end x) other
    ]

    first : h ≡ g → item_of writer_of g.dropping.writer (counts_in end (h ∷ gs)) ≡ item_of writer_of g.dropping.writer (covered (its_cover end g))
    first is = elim (cases_Option (item_of writer_of g.dropping.writer (covered (its_cover end g)))) [
      | inl none ↦
          item_rest g.dropping.writer (covered (its_cover end h)) (counts_in end gs) (subst (λ (y : Gathered). item_of writer_of g.dropping.writer (covered (its_cover end y)) ≡ None) (sym is) none)
          ∙ none_in end g.dropping.writer gs (λ x b. by_writer x b none) ∙ sym none
      | inr some ↦
          item_first g.dropping.writer (covered (its_cover end h)) (counts_in end gs) some.0 (subst (λ (y : Gathered). item_of writer_of g.dropping.writer (covered (its_cover end y)) ≡ Some some.0) (sym is) some.1) ∙ sym some.1
    ]

-- ---- lists of covers by rising writer

abbrev Rises : List Cover → Type 0
Rises [] = Unit {0}
Rises (c ∷ covers) = AllByRecursion (λ (d : Cover). c.writer < d.writer) covers × Rises covers

rises_by : (covers : List Cover) → AreByWriter covers → Rises covers
rises_by [] by = tt
rises_by (c ∷ covers) by = (unmap (λ later. c.writer < later) writer_of covers (recursion_from_All (λ later. c.writer < later) (map writer_of covers) by.0), rises_by covers by.1)

none_above : (n : ℕ) (covers : List Cover) → AllByRecursion (λ (d : Cover). n < d.writer) covers → item_of writer_of n covers ≡ None
none_above n [] all = refl
none_above n (c ∷ covers) all = cond-false (nat_eq c.writer n) (Some c) (item_of writer_of n covers) (another c.writer n (λ e. omega (arith, e, all.0))) ∙ none_above n covers all.1

higher : (low high : ℕ) (covers : List Cover) → low < high → AllByRecursion (λ (d : Cover). high < d.writer) covers → AllByRecursion (λ (d : Cover). low < d.writer) covers
higher low high [] l all = tt
higher low high (c ∷ covers) l all = (omega (arith, l, all.0), higher low high covers l all.1)

head_item : (c : Cover) (covers : List Cover) → item_of writer_of c.writer (c ∷ covers) ≡ Some c
head_item c covers = cond-true (nat_eq c.writer c.writer) (Some c) (item_of writer_of c.writer covers) (itself c.writer)

-- such lists with the same cover of each writer are one
same_covers : (a b : List Cover) → Rises a → Rises b → ((w : ℕ) → item_of writer_of w a ≡ item_of writer_of w b) → a ≡ b
same_covers [] [] r s same = refl
same_covers [] (d ∷ b) r s same = let clash : None ≡ Some d = same d.writer ∙ head_item d b in absurd (cc)
same_covers (c ∷ a) [] r s same = let clash : None ≡ Some c = sym (same c.writer) ∙ head_item c a in absurd (cc)
same_covers (c ∷ a) (d ∷ b) r s same = elim (cases_order c.writer d.writer) [
  | inl e ↦
      let both : Some c ≡ Some d = sym (head_item c a) ∙ same c.writer ∙ ap (λ w. item_of writer_of w (d ∷ b)) e ∙ head_item d b in
      let first : c ≡ d = cc in
      let rest : a ≡ b = same_covers a b r.1 s.1 (λ w. later w e) in
      λ i. first i ∷ rest i
  | inr (inl less) ↦
      let clash : Some c ≡ None = sym (head_item c a) ∙ same c.writer ∙ none_above c.writer (d ∷ b) (less, higher c.writer d.writer b less s.0) in absurd (cc)
  | inr (inr more) ↦
      let clash : None ≡ Some d = sym (none_above d.writer (c ∷ a) (more, higher d.writer c.writer a more r.0)) ∙ same d.writer ∙ head_item d b in absurd (cc)
]
  where
    later : (w : ℕ) → c.writer ≡ d.writer → item_of writer_of w a ≡ item_of writer_of w b
    later w e = elim (cases_eq c.writer w) as (λ _. item_of writer_of w a ≡ item_of writer_of w b) [
      | inl is ↦ subst (λ n. item_of writer_of n a ≡ item_of writer_of n b) is (none_above c.writer a r.0 ∙ sym (ap (λ n. item_of writer_of n b) e ∙ none_above d.writer b s.0))
      | inr other ↦
          sym (cond-false (nat_eq c.writer w) (Some c) (item_of writer_of w a) (another c.writer w other)) ∙ same w
          ∙ cond-false (nat_eq d.writer w) (Some d) (item_of writer_of w b) (another d.writer w (λ q. other (e ∙ q)))
    ]

counts_above : (end : Moment) (w : ℕ) (cut : List Gathered) → AllByRecursion (λ (h : Gathered). w < h.dropping.writer) cut → AllByRecursion (λ (c : Cover). w < c.writer) (counts_in end cut)
counts_above end w [] all = tt
counts_above end w (g ∷ cut) all = elim (nat_eq (its_cover end g).count 0) as (λ t. AllByRecursion (λ (c : Cover). w < c.writer) ((if t then [] else its_cover end g ∷ []) ++ counts_in end cut)) [
  | true ↦ counts_above end w cut all.1
  | false ↦ (all.0, counts_above end w cut all.1)
]

counts_rise : (end : Moment) (room : ℕ) (cut : List Gathered) → WritersRise room cut → Rises (counts_in end cut)
counts_rise end room [] rise = tt
counts_rise end room (g ∷ cut) rise = elim (nat_eq (its_cover end g).count 0) as (λ t. Rises ((if t then [] else its_cover end g ∷ []) ++ counts_in end cut)) [
  | true ↦ counts_rise end room cut rise.2
  | false ↦ (counts_above end g.dropping.writer cut rise.1, counts_rise end room cut rise.2)
]

-- ---- the covers of a reader

pub of_writer : (w : ℕ) (gs : List Gathered) → ((g : Gathered) × Among g gs × (g.dropping.writer ≡ w)) ⊎ ((g : Gathered) → Among g gs → g.dropping.writer ≡ w → ⊥)
of_writer w [] = inr (λ g a. absurd a)
of_writer w (g ∷ gs) = elim (cases_eq g.dropping.writer w) as (λ _. ((h : Gathered) × Among h (g ∷ gs) × (h.dropping.writer ≡ w)) ⊎ ((h : Gathered) → Among h (g ∷ gs) → h.dropping.writer ≡ w → ⊥)) [
  | inl e ↦ inl (g, inl refl, e)
  | inr other ↦ elim (of_writer w gs) as (λ _. ((h : Gathered) × Among h (g ∷ gs) × (h.dropping.writer ≡ w)) ⊎ ((h : Gathered) → Among h (g ∷ gs) → h.dropping.writer ≡ w → ⊥)) [
    | inl (h, a, e) ↦ inl (h, inr a, e)
    | inr none ↦ inr (λ h a e. neither h a e other none)
  ]
]
  where
    neither : (h : Gathered) → Among h (g ∷ gs) → h.dropping.writer ≡ w → (g.dropping.writer ≡ w → ⊥) → ((x : Gathered) → Among x gs → x.dropping.writer ≡ w → ⊥) → ⊥
    neither h (inl same) e other none = other (ap (λ (x : Gathered). x.dropping.writer) (sym same) ∙ e)
    neither h (inr a) e other none = none h a e

-- What the counts of one of the cut come to: as many as it has, and no fewer than are covered.
pub record IsCounted (end : Moment) (flat : List Cover) (g : Gathered) : Type 0 where
  pub whole : length (own_entries end g) ≡ g.count
  pub before : g.covered ≡ (cover_before flat g).count
  pub few : g.covered ≤ g.count

no_flat : (end : Moment) (flat : List Cover) (g : Gathered) → ((c : Cover) → Among c flat → 1 ≤ c.count) → IsCounted end flat g → item_of writer_of g.dropping.writer (covered (its_cover end g)) ≡ None → item_of writer_of g.dropping.writer flat ≡ None
no_flat end flat g some n none = elim (cases_Option (item_of writer_of g.dropping.writer flat)) [
  | inl nothing ↦ nothing
  | inr (c, is) ↦
      let a = item_among g.dropping.writer flat c is in
      let count : 0 + length (own_entries end g) ≡ 0 = covered_none (its_cover end g) none in
      let its : (cover_before flat g).count ≡ c.count = ap (λ o. (or_nothing g.dropping.writer o).count) is in
      absurd (omega (arith, count, n.whole, n.before, n.few, its, some c a.0))
]

-- The covers that are first told, of what was gathered and then of the flattened index, are the counts of the cut.
pub covers_counted : (end : Moment) (room : ℕ) (cut gathered : List Gathered) (flat told covers : List Cover) → WritersRise room cut → AreRightFor end cut flat → ((g : Gathered) → Among g cut → IsCounted end flat g) → ((g : Gathered) → Among g gathered → Among g cut) → ((g : Gathered) → Among g cut → Among g gathered)
    → told ≡ counts_in end gathered → AreByWriter covers → ((w : ℕ) → item_of writer_of w covers ≡ item_of writer_of w (told ++ flat)) → covers ≡ counts_in end cut
covers_counted end room cut gathered flat told covers rise right counted within all is by each =
    same_covers covers (counts_in end cut) (rises_by covers by) (counts_rise end room cut rise) (λ w. each w ∙ ap (λ l. item_of writer_of w (l ++ flat)) is ∙ its w)
  where
    its : (w : ℕ) → item_of writer_of w (counts_in end gathered ++ flat) ≡ item_of writer_of w (counts_in end cut)
    its w = elim (of_writer w cut) as (λ _. item_of writer_of w (counts_in end gathered ++ flat) ≡ item_of writer_of w (counts_in end cut)) [
      | inl (g, a, e) ↦ subst (λ n. item_of writer_of n (counts_in end gathered ++ flat) ≡ item_of writer_of n (counts_in end cut)) e (mine g a)
      | inr none ↦
          item_rest w (counts_in end gathered) flat (none_in end w gathered (λ h a. covered_other w (its_cover end h) (λ e. none h (within h a) e)))
          ∙ nothing w none ∙ sym (none_in end w cut (λ h a. covered_other w (its_cover end h) (λ e. none h a e)))
    ]
      where
        nothing : (n : ℕ) → ((g : Gathered) → Among g cut → g.dropping.writer ≡ n → ⊥) → item_of writer_of n flat ≡ None
        nothing n none = elim (cases_Option (item_of writer_of n flat)) [
          | inl nowhere ↦ nowhere
          | inr (c, found) ↦ (let a = item_among n flat c found in let g = right.within c a.0 in absurd (none g.0 g.1 (g.2 ∙ a.1)))
        ]

        mine : (g : Gathered) → Among g cut → item_of writer_of g.dropping.writer (counts_in end gathered ++ flat) ≡ item_of writer_of g.dropping.writer (counts_in end cut)
        mine g a =
            let here = one_in end gathered g (all g a) (λ h b e. one_gathered room cut h g rise (within h b) a e) in
            let there = one_in end cut g a (λ h b e. one_gathered room cut h g rise b a e) in
            elim (cases_Option (item_of writer_of g.dropping.writer (covered (its_cover end g)))) [
              | inl none ↦ item_rest g.dropping.writer (counts_in end gathered) flat (here ∙ none) ∙ no_flat end flat g right.some (counted g a) none ∙ sym (there ∙ none)
              | inr some ↦ item_first g.dropping.writer (counts_in end gathered) flat some.0 (here ∙ some.1) ∙ sym (there ∙ some.1)
            ]
