-- The entries of a cut that a flattened index covers are those that it was made of.
use Rattle.std.proofs.Common.{◌≡◌, ℕ, suc, ◌≤◌, ◌<◌, true, false, nat_eq, List, [], ◌∷◌, ◌++◌, length, min, take, Option, Some, None, refl, ap, sym, ◌∙◌, inl, inr, subst, arith}
use Rattle.std.specs.Prelude.{slice_get, if◌then◌else◌}
use Rattle.std.specs.List.{All, Any, AllByRecursion}
use Rattle.std.proofs.lemmas.Bool.{cases_lt}
use Rattle.std.proofs.lemmas.Bool.Decides.{nat_tests}
use Rattle.std.proofs.lemmas.List.Elements.{recursion_from_All}
use Rattle.plfs_types.specs.declared.entries.Cover.{Cover}
use Rattle.plfs_types.specs.declared.entries.Entry.{Entry}
use Rattle.plain_file.specs.Runs.{ArePieces}
use Rattle.plain_file.proofs.Facts.{Among, All-Among}
use Rattle.flat_format.specs.Covers.{AreCovers}
use Rattle.flat_format.specs.declared.flat.Flat.{Flat}
use Rattle.store_api.specs.declared.tree.Room.{Room}
use Rattle.mount_model.specs.Paths.{Name, index_path}
use Rattle.mount_sound.specs.Dropping.{bytes_of}
use Rattle.mount_sound.specs.Flats.{AreCovered, IsCovered, covered_entries}
use Rattle.mount_sound.specs.Keeping.{kept_in}
use Rattle.mount_sound.specs.Landed.{whole}
use Rattle.mount_sound.specs.Ledger.{entries_in}
use Rattle.mount_sound.proofs.Facts.{kept_landed, landed_is, take_less}
use Rattle.reader_laws.specs.Moments.{Moment, IsSoundAt, Dropping, Stood, file_in_room, file_told, issued_by, landed, Grows}
use Rattle.reader_laws.specs.Seen.{Asked, IsSeen}
use Rattle.reader_laws.specs.Gathering.{Gathered, CoversLanded, IsAdmissible}
use Rattle.reader_laws.specs.View.{WritersRise, covered_in, own_entries}
use Rattle.reader_laws.specs.Flats.{IsCoveredSo, IsFlatName, ReadsFlat, TakesNewest, covered_count, covers_of, pieces_of}
use Rattle.reader_laws.proofs.Gathered.Moments.Growing.{grows_refl, grows_trans, stood_grows}
use Rattle.reader_laws.proofs.Gathered.Moments.Seeing.{alike, seen_grows}
use Rattle.reader_laws.proofs.Gathered.Containers.Members.{any_found}
use Rattle.reader_laws.proofs.Gathered.Indices.FlatReading.{WasRight, above, flat_right}
use Rattle.reader_laws.proofs.Gathered.Logs.Fronts.{entries_stay, landed_at, landed_is_first, landed_whole}

same_number : (a b : ℕ) → a ≡ b → nat_eq a b ≡ true
same_number a b e = grind (arith, nat_tests)

other_number : (a b : ℕ) → a < b → nat_eq a b ≡ false
other_number a b l = grind (arith, nat_tests)

unlike : (a b : ℕ) → b < a → nat_eq a b ≡ false
unlike a b l = grind (arith, nat_tests)

-- the dropping was gathered
abbrev pub HasGathered : List Gathered → Dropping → Type 0
HasGathered cut d = (g : Gathered) × Among g cut × (g.dropping ≡ d)

-- each dropping of the room that stood was gathered, of writers from this one on
abbrev pub HasAll : Moment → ℕ → ℕ → List Gathered → Type 0
HasAll m number least cut = (d : Dropping) → d.room ≡ number → least ≤ d.writer → Stood m d → HasGathered cut d

-- ---------- lists

take_none : (es : List Entry) → take 0 es ≡ []
take_none [] = refl
take_none (e ∷ es) = refl

-- the rest of a cut is of later writers
from_next : (g : Gathered) (cut : List Gathered) → AllByRecursion (λ (h : Gathered). g.dropping.writer < h.dropping.writer) cut → AllByRecursion (λ (h : Gathered). suc g.dropping.writer ≤ h.dropping.writer) cut
from_next g [] all = tt
from_next g (h ∷ cut) all = (omega (arith, all.0), from_next g cut all.1)

higher : (low high : ℕ) (covers : List Cover) → low < high → AllByRecursion (λ (d : Cover). suc high ≤ d.writer) covers → AllByRecursion (λ (d : Cover). suc low ≤ d.writer) covers
higher low high [] l all = tt
higher low high (d ∷ covers) l all = (omega (arith, l, all.0), higher low high covers l all.1)

-- no entry is covered of a writer that comes before all covers
none_counted : (writer : ℕ) (covers : List Cover) → AllByRecursion (λ (d : Cover). suc writer ≤ d.writer) covers → covered_count covers writer ≡ 0
none_counted writer [] all = refl
none_counted writer (c ∷ covers) all = let other : nat_eq c.writer writer ≡ false = unlike c.writer writer (omega (arith, all.0)) in rw other (none_counted writer covers all.1)

counted : (c : Cover) (covers : List Cover) (writer : ℕ) → c.writer ≡ writer → covered_count (c ∷ covers) writer ≡ c.count
counted c covers writer same = let one : nat_eq c.writer writer ≡ true = same_number c.writer writer same in rw one refl

-- of later writers no more is covered than by the later covers
so_rest : (c : Cover) (covers : List Cover) (cut : List Gathered) → AllByRecursion (λ (h : Gathered). c.writer < h.dropping.writer) cut → AllByRecursion (IsCoveredSo (c ∷ covers)) cut → AllByRecursion (IsCoveredSo covers) cut
so_rest c covers [] all so = tt
so_rest c covers (h ∷ cut) all so = (so.0 ∙ past, so_rest c covers cut all.1 so.1)
  where
    past : covered_count (c ∷ covers) h.dropping.writer ≡ covered_count covers h.dropping.writer
    past = let other : nat_eq c.writer h.dropping.writer ≡ false = other_number c.writer h.dropping.writer (omega (arith, all.0)) in rw other refl

-- ---------- two of a cut

above_head : (room : ℕ) (g h : Gathered) (cut : List Gathered) → WritersRise room (g ∷ cut) → Among h cut → g.dropping.writer < h.dropping.writer
above_head room g h cut rise a = All-Among (λ (x : Gathered). g.dropping.writer < x.dropping.writer) cut h rise.1 a

-- a cut has one dropping a writer
pub one_gathered : (room : ℕ) (cut : List Gathered) (g h : Gathered) → WritersRise room cut → Among g cut → Among h cut → g.dropping.writer ≡ h.dropping.writer → g ≡ h
one_gathered room [] g h rise a b same = absurd a
one_gathered room (x ∷ cut) g h rise (inl p) (inl q) same = p ∙ sym q
one_gathered room (x ∷ cut) g h rise (inl p) (inr b) same = absurd (omega (arith, above_head room x h cut rise b, ap (λ (y : Gathered). y.dropping.writer) p, same))
one_gathered room (x ∷ cut) g h rise (inr a) (inl q) same = absurd (omega (arith, above_head room x g cut rise a, ap (λ (y : Gathered). y.dropping.writer) q, same))
one_gathered room (x ∷ cut) g h rise (inr a) (inr b) same = one_gathered room cut g h rise.2 a b same

no_more : (a b c d : ℕ) → a ≤ b → b ≤ c → c ≡ d → a ≤ d
no_more a b c d x y z = omega (arith, x, y, z)

-- ---------- a cover

module _ (m : Moment) (s : IsSoundAt m) (number : ℕ) (room : Room) (there : slice_get s.shape.tree.rooms number ≡ Some room) where
  -- the dropping whose entries it covers
  abbrev pub of_cover : (c : Cover) → IsCovered room c → Dropping
  of_cover c is = record { room = number; host = is.host; writer = c.writer }

  pub stood : (c : Cover) (is : IsCovered room c) → Stood m (of_cover c is)
  stood c is = record {
    is_item = is.stands.is_item;
    bytes = is.content;
    there = ap (λ o. file_told o number (index_path is.host c.writer)) s.shape.told ∙ ap (λ o. file_in_room o (index_path is.host c.writer)) there ∙ is.stands.there;
  }

  -- what it covers had landed
  pub count_landed : (c : Cover) (is : IsCovered room c) → c.count ≤ landed m (of_cover c is)
  unfolding stood
  count_landed c is =
      let w = (s.sound.rooms number room there).writers c.writer is.stands.is_item.widths.1 in
      let now : landed m (of_cover c is) ≡ min (whole is.content) (length (m.issued number c.writer)) =
      landed_whole m s (of_cover c is) is.stands.is_item ∙ ap (λ o. min (whole (bytes_of o)) (length (m.issued number c.writer))) (stood c is).there in
      let had : w.landed ≡ min (whole is.content) (length (m.issued number c.writer)) = landed_is room is.host c.writer (m.issued number c.writer) is.content w is.stands in
      let kept : kept_in room is.host c.writer ≤ w.landed = kept_landed room is.host c.writer (m.issued number c.writer) w (s.sound.writes number c.writer) is.content is.stands in
      no_more c.count (kept_in room is.host c.writer) w.landed (landed m (of_cover c is)) is.kept kept (had ∙ sym now)

  -- and is the first that its writer had issued then, and ever
  pub front : (end : Moment) → Grows m end → (c : Cover) (is : IsCovered room c) → covered_entries room is.host c ≡ take c.count (entries_in (issued_by end (of_cover c is)))
  front end grows c is =
      let d : Dropping = of_cover c is in
      let count : c.count ≤ landed m d = count_landed c is in
      ap (take c.count) (sym (landed_at m s d room there))
      ∙ ap (take c.count) (landed_is_first m s d is.stands.is_item)
      ∙ take_less c.count (landed m d) (entries_in (issued_by m d)) count
      ∙ sym (entries_stay m end d c.count grows (omega (arith, count, landed_whole m s d is.stands.is_item)))

  -- ---------- the counts of a cut

  its_count : (cut : List Gathered) (covers : List Cover) (entries : List Entry) → WritersRise number cut → AreCovered room covers entries → HasAll m number 0 cut → (g : Gathered) → Among g cut → covered_count covers g.dropping.writer ≤ landed m g.dropping
  its_count cut [] entries rise are has g a = omega arith
  its_count cut (c ∷ covers) entries rise are has g a = elim (nat_eq c.writer g.dropping.writer) as (λ b. nat_eq c.writer g.dropping.writer ≡ b → (if b then c.count else covered_count covers g.dropping.writer) ≤ landed m g.dropping) [
    | true ↦ λ e.
        let h = has (of_cover c are.0) refl (omega arith) (stood c are.0) in
        let same : g ≡ h.0 = one_gathered number cut g h.0 rise a h.1 (sym (alike c.writer g.dropping.writer e) ∙ sym (ap (λ (d : Dropping). d.writer) h.2)) in
        subst (λ d. c.count ≤ landed m d) (sym (ap (λ (x : Gathered). x.dropping) same ∙ h.2)) (count_landed c are.0)
    | false ↦ λ e. its_count cut covers are.1.0 rise are.1.2 has g a
  ] refl

  -- so all that is covered of the cut had landed
  pub all_landed : (cut part : List Gathered) (covers : List Cover) (entries : List Entry) → WritersRise number cut → AreCovered room covers entries → HasAll m number 0 cut → AllByRecursion (IsCoveredSo covers) part → ((g : Gathered) → Among g part → Among g cut) → AllByRecursion (CoversLanded m) part
  all_landed cut [] covers entries rise are has so within = tt
  all_landed cut (g ∷ part) covers entries rise are has so within =
      (omega (arith, so.0, its_count cut covers entries rise are has g (within g (inl refl))), all_landed cut part covers entries rise are has so.1 (λ h a. within h (inr a)))

  -- ---------- the covered entries of a cut

  -- the rest of a cut has the later droppings
  later_has : (least : ℕ) (g : Gathered) (cut : List Gathered) → least ≤ g.dropping.writer → HasAll m number least (g ∷ cut) → HasAll m number (suc g.dropping.writer) cut
  later_has least g cut within has d its l st =
      let h = has d its (omega (arith, within, l)) st in
      elim h.1 as (λ _. HasGathered cut d) [
        | inl same ↦ absurd (omega (arith, l, ap (λ (x : Gathered). x.dropping.writer) same, ap (λ (x : Dropping). x.writer) h.2))
        | inr a ↦ (h.0, a, h.2)
      ]

  pub covered_same : (end : Moment) → Grows m end → (least : ℕ) (cut : List Gathered) (covers : List Cover) (entries : List Entry) → WritersRise number cut → AllByRecursion (λ (g : Gathered). least ≤ g.dropping.writer) cut → IsAdmissible m end cut → AllByRecursion (IsCoveredSo covers) cut
      → AreCovers covers → AllByRecursion (λ (c : Cover). least ≤ c.writer) covers → AreCovered room covers entries → HasAll m number least cut → covered_in end cut ≡ entries
  covered_same end grows least [] [] entries rise high admissible so valid all are has = sym are
  covered_same end grows least [] (c ∷ covers) entries rise high admissible so valid all are has = absurd ((has (of_cover c are.0) refl all.0 (stood c are.0)).1)
  covered_same end grows least (g ∷ cut) [] entries rise high admissible so valid all are has =
      ap (λ n. take n (own_entries end g) ++ covered_in end cut) so.0 ∙ ap (λ l. l ++ covered_in end cut) (take_none (own_entries end g))
      ∙ covered_same end grows (suc g.dropping.writer) cut [] entries rise.2 (from_next g cut rise.1) admissible.1 so.1 valid tt are (later_has least g cut high.0 has)
  covered_same end grows least (g ∷ cut) (c ∷ covers) entries rise high admissible so valid all are has = elim (cases_lt g.dropping.writer c.writer) as (λ _. covered_in end (g ∷ cut) ≡ entries) [
    | inl before ↦
        let rest : AllByRecursion (λ (d : Cover). suc g.dropping.writer ≤ d.writer) (c ∷ covers) = (omega (arith, before), higher g.dropping.writer c.writer covers before (above c covers valid.1 valid.2)) in
        ap (λ n. take n (own_entries end g) ++ covered_in end cut) (so.0 ∙ none_counted g.dropping.writer (c ∷ covers) rest) ∙ ap (λ l. l ++ covered_in end cut) (take_none (own_entries end g))
        ∙ covered_same end grows (suc g.dropping.writer) cut (c ∷ covers) entries rise.2 (from_next g cut rise.1) admissible.1 so.1 valid rest are (later_has least g cut high.0 has)
    | inr behind ↦
        let h = has (of_cover c are.0) refl all.0 (stood c are.0) in
        let writer : h.0.dropping.writer ≡ c.writer = ap (λ (d : Dropping). d.writer) h.2 in
        let is : h.0 ≡ g = (elim h.1 as (λ _. h.0 ≡ g) [ inl same ↦ same | inr a ↦ absurd (omega (arith, behind, writer, above_head number g h.0 cut rise a)) ]) in
        let dropping : g.dropping ≡ of_cover c are.0 = ap (λ (x : Gathered). x.dropping) (sym is) ∙ h.2 in
        let one : c.writer ≡ g.dropping.writer = sym (ap (λ (d : Dropping). d.writer) dropping) in
        let count : g.covered ≡ c.count = so.0 ∙ counted c covers g.dropping.writer one in
        let landed_then : c.count ≤ landed m g.dropping = subst (λ d. c.count ≤ landed m d) (sym dropping) (count_landed c are.0) in
        let mine : take g.covered (own_entries end g) ≡ covered_entries room are.0.host c =
        ap (λ n. take n (own_entries end g)) count
        ∙ take_less c.count g.count (entries_in (issued_by end g.dropping)) (omega (arith, landed_then, admissible.0.least))
        ∙ ap (λ d. take c.count (entries_in (issued_by end d))) dropping ∙ sym (front end grows c are.0) in
        let rest : AllByRecursion (λ (d : Cover). suc g.dropping.writer ≤ d.writer) covers = subst (λ w. AllByRecursion (λ (d : Cover). suc w ≤ d.writer) covers) one (above c covers valid.1 valid.2) in
        ap (λ l. l ++ covered_in end cut) mine
        ∙ ap (λ l. covered_entries room are.0.host c ++ l)
        (covered_same end grows (suc g.dropping.writer) cut covers are.1.0 rise.2 (from_next g cut rise.1) admissible.1 (so_rest c covers cut (subst (λ w. AllByRecursion (λ (x : Gathered). w < x.dropping.writer) cut) (sym one) rise.1) so.1) valid.2 rest are.1.2 (later_has least g cut high.0 has))
        ∙ sym are.1.1
  ]

-- ---------- what was taken

-- A moment between these two at which what is covered of the cut had landed, with what the pieces of the flattened index
-- are at each later one.
pub record IsTaken (start end : Moment) (cut : List Gathered) (flat : Option Flat) : Type 0 where
  pub m : Moment
  pub begins : Grows start m
  pub ends : Grows m end
  pub landed : AllByRecursion (CoversLanded m) cut
  pub pieces : (later : Moment) → Grows end later → IsAdmissible m later cut → ArePieces (covered_in later cut) [] (pieces_of flat)

none_landed : (m : Moment) (cut : List Gathered) → AllByRecursion (IsCoveredSo []) cut → AllByRecursion (CoversLanded m) cut
none_landed m [] so = tt
none_landed m (g ∷ cut) so = (omega (arith, so.0), none_landed m cut so.1)

none_covered : (end : Moment) (cut : List Gathered) → AllByRecursion (IsCoveredSo []) cut → covered_in end cut ≡ []
none_covered end [] so = refl
none_covered end (g ∷ cut) so = ap (λ n. take n (own_entries end g) ++ covered_in end cut) so.0 ∙ ap (λ l. l ++ covered_in end cut) (take_none (own_entries end g)) ∙ none_covered end cut so.1

no_pieces : ArePieces [] [] []
no_pieces = record { runs = tt; shown = λ x. refl }

from_least : (cut : List Gathered) → AllByRecursion (λ (g : Gathered). 0 ≤ g.dropping.writer) cut
from_least [] = tt
from_least (g ∷ cut) = (omega arith, from_least cut)

covers_least : (covers : List Cover) → AllByRecursion (λ (c : Cover). 0 ≤ c.writer) covers
covers_least [] = tt
covers_least (c ∷ covers) = (omega arith, covers_least covers)

newest_taken : (caller room : ℕ) (start end : Moment) (names : List Name) (flat : Option Flat) (asked : List Asked) (cut : List Gathered) → IsSeen caller start asked end → TakesNewest room names flat asked → WritersRise room cut → AllByRecursion (IsCoveredSo (covers_of flat)) cut
    → ((d : Dropping) → d.room ≡ room → Stood end d → Any (λ (g : Gathered). g.dropping ≡ d) cut) → IsTaken start end cut flat
newest_taken caller room start end names None asked cut seen takes rise so found = record {
  m = start;
  begins = grows_refl start;
  ends = seen_grows caller start end asked seen;
  landed = none_landed start cut so;
  pieces = λ later goes admissible. subst (λ es. ArePieces es [] []) (sym (none_covered later cut so)) no_pieces;
}
newest_taken caller room start end names (Some flat) asked cut seen (id, content, newest, reads, spells) rise so found =
    let (name, a, named) = any_found (λ n. IsFlatName n id) names newest.named in
    let w : WasRight start end room flat = flat_right caller room id start end asked content flat seen named.is_item reads spells in
    let has : HasAll w.m room 0 cut = λ d its l st. (let f = any_found (λ (g : Gathered). g.dropping ≡ d) cut (found d its (stood_grows w.m end d w.ends st)) in (f.0, f.1, f.2)) in
    record {
      m = w.m;
      begins = w.begins;
      ends = w.ends;
      landed = all_landed w.m w.sound room w.room w.there cut cut flat.covers w.entries rise w.covered has so (λ g b. b);
      pieces = λ later goes admissible.
          subst (λ es. ArePieces es [] flat.pieces)
          (sym (covered_same w.m w.sound room w.room w.there later (grows_trans w.m end later w.ends goes) 0 cut flat.covers w.entries rise (from_least cut) admissible so w.covers (covers_least flat.covers) w.covered has))
          w.pieces;
    }

-- What a reader took of the newest flattened index is right.
pub flat_taken : (caller room : ℕ) (start end : Moment) (flat : Option Flat) (asked : List Asked) (cut : List Gathered) → IsSeen caller start asked end → ReadsFlat room flat asked → WritersRise room cut → All (IsCoveredSo (covers_of flat)) cut
    → ((d : Dropping) → d.room ≡ room → Stood end d → Any (λ (g : Gathered). g.dropping ≡ d) cut) → IsTaken start end cut flat
flat_taken caller room start end flat asked cut seen reads rise so found =
    let s : IsSeen caller start (reads.first ∷ reads.reads) end = subst (λ l. IsSeen caller start l end) reads.calls seen in
    let taken = newest_taken caller room s.0 end reads.names flat reads.reads cut s.2 reads.takes rise (recursion_from_All (IsCoveredSo (covers_of flat)) cut so) found in
    record { m = taken.m; begins = grows_trans start s.0 taken.m (grows_trans start s.1.before s.0 s.1.waits s.1.goes) taken.begins; ends = taken.ends; landed = taken.landed; pieces = taken.pieces }
