-- A reader whose cut holds what was packed, and all units before it, is told the units that were packed.
use Rattle.std.proofs.Common.{◌≡◌, inl, inr, ℕ, ◌+◌, ◌*◌, ◌<◌, ◌≤◌, List, [], ◌∷◌, ◌++◌, length, map, refl, sym, ap, ◌∙◌, subst, arith}
use Rattle.std.specs.List.{All, AllByRecursion, Contains}
use Rattle.std.proofs.lemmas.Bool.{cases_lt}
use Rattle.std.proofs.lemmas.List.Elements.{All-contains, All-from_recursion}
use Rattle.plfs_types.specs.declared.entries.Trunc.{Trunc}
use Rattle.plain_file.specs.declared.changes.Change.{Change}
use Rattle.plain_file.specs.declared.changes.Change.TheVariants.{Write}
use Rattle.plain_file.proofs.Facts.{Among, Contains-from_Among}
use Rattle.mount_sound.specs.Ledger.{Written}
use Rattle.unit_format.specs.declared.units.TheConstants.{REGION_SIZE}
use Rattle.unit_format.specs.Units.{SmallFile, unit_size, unit_spelling, units_spelling}
use Rattle.reader_laws.specs.Gathering.{Gathered}
use Rattle.plfs_types.specs.Places.{IsAmong}
use Rattle.reader_laws.specs.Moments.{Dropping, Moment}
use Rattle.reader_laws.specs.GatheringOpening.{HasView}
use Rattle.reader_laws.specs.View.{changes_in, cut_off, writes_in}
use Rattle.mount_sound.specs.Ledger.{change_of}
use Rattle.reader_laws.proofs.Gathered.Facts.{all_at, among, among_left}
use Rattle.pack_input.specs.declared.files.NamedFile.{NamedFile}
use Rattle.pack_laws.specs.Scanned.{region_start, region_stop}
use Rattle.lone_flow.specs.Putting.{small_file}
use Rattle.packing_laws.specs.HasOnly.{HasFirstUnits, HasOnlyUnits, IsWrittenAt}
use Rattle.packing_laws.specs.Lasting.{HoldsWrites}
use Rattle.packing_laws.specs.OnlyUnits.{AreOnlyUnits, Filing, HasUnitAt, PutsUnit}
use Rattle.packing_laws.specs.Packed.{ArePuts}
use Rattle.packing_laws.specs.Later.{IsBehindWritten, PutsUnitOf}
use Rattle.packing_laws.proofs.SmallFiles.Fronts.{front_told}
use Rattle.packing_laws.proofs.SmallFiles.Places.{its_file, stand_apart, stands_from, stands_until, unit_long, unit_some}
use Rattle.packing_laws.proofs.SmallFiles.Views.{cut_units}

-- ---- places

-- the units with places below a place are the first ones
record Parts (until from : ℕ) (files : List SmallFile) : Type 0 where
  pub front : List SmallFile
  pub rest : List SmallFile
  pub split : files ≡ front ++ rest
  pub low : (place : ℕ) (f : SmallFile) → HasUnitAt from front place f → place < until
  pub all : (place : ℕ) (f : SmallFile) → HasUnitAt from files place f → place < until → HasUnitAt from front place f

parts : (until from : ℕ) (files : List SmallFile) → Parts until from files
parts until from [] = record { front = []; rest = []; split = refl; low = λ place f none. absurd none; all = λ place f none below. absurd none }
parts until from (g ∷ files) = elim (cases_lt from until) as (λ _. Parts until from (g ∷ files)) [
  | inl below ↦ more below (parts until (from + unit_size g) files)
  | inr past ↦ record {
    front = [];
    rest = g ∷ files;
    split = refl;
    low = λ place f none. absurd none;
    all = λ place f has low. absurd (omega (arith, past, low, stands_from from (g ∷ files) place f has));
  }
]
  where
    more : from < until → Parts until (from + unit_size g) files → Parts until from (g ∷ files)
    more below r = record {
      front = g ∷ r.front;
      rest = r.rest;
      split = ap (λ z. g ∷ z) r.split;
      low = λ place f has. low_of place f has;
      all = λ place f has low. all_of place f has low;
    }
      where
        low_of : (place : ℕ) (f : SmallFile) → HasUnitAt from (g ∷ r.front) place f → place < until
        low_of place f (inl here) = omega (arith, here.0, below)
        low_of place f (inr later) = r.low place f later

        all_of : (place : ℕ) (f : SmallFile) → HasUnitAt from (g ∷ files) place f → place < until → HasUnitAt from (g ∷ r.front) place f
        all_of place f (inl here) low = inl here
        all_of place f (inr later) low = inr (r.all place f later low)

in_front : (from : ℕ) (front rest : List SmallFile) (place : ℕ) (f : SmallFile) → HasUnitAt from front place f → HasUnitAt from (front ++ rest) place f
in_front from [] rest place f has = absurd has
in_front from (g ∷ front) rest place f (inl here) = inl here
in_front from (g ∷ front) rest place f (inr later) = inr (in_front (from + unit_size g) front rest place f later)

-- ---- writes one behind the other

puts_grow : (at until : ℕ) (files : List NamedFile) (writes : List Written) → ArePuts at until files writes → at ≤ until
puts_grow at until [] [] are = omega (arith, are)
puts_grow at until [] (w ∷ writes) are = absurd are
puts_grow at until (f ∷ files) [] are = absurd are
puts_grow at until (f ∷ files) (w ∷ writes) are = omega (arith, puts_grow (at + unit_size (small_file f)) until files writes are.2)

long_as : (f : NamedFile) (w : Written) → w.bytes ≡ unit_spelling (small_file f) → length w.bytes ≡ unit_size (small_file f)
long_as f w is = ap (λ (bs : List ℕ). length bs) is ∙ unit_long (small_file f)

puts_within : (at until : ℕ) (files : List NamedFile) (writes : List Written) (w : Written) → ArePuts at until files writes → Among w writes → (at ≤ w.entry.at) × (w.entry.at + length w.bytes ≤ until) × (1 ≤ length w.bytes)
puts_within at until [] [] w are a = absurd a
puts_within at until [] (v ∷ writes) w are a = absurd are
puts_within at until (f ∷ files) [] w are a = absurd are
puts_within at until (f ∷ files) (v ∷ writes) w are (inl same) =
    let long : length v.bytes ≡ unit_size (small_file f) = long_as f v are.1 in
    let grows : at + unit_size (small_file f) ≤ until = puts_grow (at + unit_size (small_file f)) until files writes are.2 in
    let P : Written → Type 0 = λ x. (at ≤ x.entry.at) × (x.entry.at + length x.bytes ≤ until) × (1 ≤ length x.bytes) in
    subst P (sym same) (omega (arith, are.0), omega (arith, are.0, long, grows), omega (arith, long))
puts_within at until (f ∷ files) (v ∷ writes) w are (inr later) =
    let r = puts_within (at + unit_size (small_file f)) until files writes w are.2 later in
    (omega (arith, r.0), r.1, r.2)

-- the unit that a write puts
record Slot (filing : Filing) (changes : List Change) (region : ℕ) (w : Written) : Type 0 where
  pub f : SmallFile
  pub has : HasUnitAt (region_start region) (filing region) w.entry.at f
  pub spelled : w.bytes ≡ unit_spelling f
  pub there : Contains changes (Write w.entry w.bytes)

module _ (filing : Filing) (changes : List Change) (region : ℕ) (only : AreOnlyUnits filing changes) where
  slot : (w : Written) → Contains changes (Write w.entry w.bytes) → region_start region ≤ w.entry.at → w.entry.at < region_stop region → Slot filing changes region w
  slot w there low high =
      let p : PutsUnit filing (Write w.entry w.bytes) = All-contains (PutsUnit filing) changes (Write w.entry w.bytes) only.each there in
      let from : p.0 * REGION_SIZE ≤ w.entry.at = stands_from (p.0 * REGION_SIZE) (filing p.0) w.entry.at p.1 p.3 in
      let until : w.entry.at + unit_size p.1 ≤ p.0 * REGION_SIZE + length (units_spelling (filing p.0)) = stands_until (p.0 * REGION_SIZE) (filing p.0) w.entry.at p.1 p.3 in
      let some : 17 ≤ unit_size p.1 = unit_some p.1 (its_file (p.0 * REGION_SIZE) (filing p.0) w.entry.at p.1 (only.is_filing.files p.0) p.3).small in
      let same : p.0 ≡ region = omega (arith, from, until, some, only.is_filing.fits p.0, low, high) in
      record { f = p.1; has = subst (λ r. HasUnitAt (r * REGION_SIZE) (filing r) w.entry.at p.1) same p.3; spelled = p.4; there = there }

  -- each unit that has its place among them is written
  puts_cover : (at until : ℕ) (files : List NamedFile) (writes : List Written) → ArePuts at until files writes → ((w : Written) → Among w writes → Slot filing changes region w)
      → (place : ℕ) (f : SmallFile) → HasUnitAt (region_start region) (filing region) place f → at ≤ place → place < until → IsWrittenAt changes place f
  puts_cover at until [] [] are each place f has low high = absurd (omega (arith, are, low, high))
  puts_cover at until [] (w ∷ writes) are each place f has low high = absurd are
  puts_cover at until (g ∷ files) [] are each place f has low high = absurd are
  puts_cover at until (g ∷ files) (w ∷ writes) are each place f has low high = elim (cases_lt place (at + unit_size (small_file g))) as (λ _. IsWrittenAt changes place f) [
    | inl here ↦
        let s : Slot filing changes region w = each w (inl refl) in
        let long : unit_size s.f ≡ unit_size (small_file g) = sym (unit_long s.f) ∙ ap (λ (bs : List ℕ). length bs) (sym s.spelled) ∙ long_as g w are.1 in
        let some : 17 ≤ unit_size f = unit_some f (its_file (region_start region) (filing region) place f (only.is_filing.files region) has).small in
        let same = stand_apart (region_start region) (filing region) place w.entry.at f s.f place has s.has (omega arith) (omega (arith, some)) (omega (arith, are.0, low)) (omega (arith, are.0, here, long)) in
        let bytes : w.bytes ≡ unit_spelling f = s.spelled ∙ ap (λ h. unit_spelling h) (sym same.1) in
        (w.entry, subst (λ bs. Contains changes (Write w.entry bs)) bytes s.there, sym same.0)
    | inr later ↦ puts_cover (at + unit_size (small_file g)) until files writes are.2 (λ v a. each v (inr a)) place f has later high
  ]

  all_told : (writes : List Written) (files : List SmallFile) → ((w : Written) → Among w writes → PutsUnitOf region files w) → AllByRecursion (PutsUnitOf region files) writes
  all_told [] files each = tt
  all_told (w ∷ writes) files each = (each w (inl refl), all_told writes files (λ v a. each v (inr a)))

  slot_of : (at until : ℕ) (files : List NamedFile) (writes : List Written) (w : Written) → ArePuts at until files writes → region_start region ≤ at → until ≤ region_stop region → Contains changes (Write w.entry w.bytes) → Among w writes → Slot filing changes region w × (w.entry.at < until)
  slot_of at until files writes w are low high there a =
      let b = puts_within at until files writes w are a in
      let below : w.entry.at < until = omega (arith, b.1, b.2) in
      (slot w there (omega (arith, low, b.0)) (omega (arith, below, high)), below)

  -- each unit of the region with a place below the end is written
  all_written : (files : List NamedFile) (at until : ℕ) (writes : List Written) → ArePuts at until files writes → IsBehindWritten filing changes region at → ((w : Written) → Among w writes → Slot filing changes region w)
      → (place : ℕ) (f : SmallFile) → HasUnitAt (region_start region) (filing region) place f → place < until → IsWrittenAt changes place f
  all_written files at until writes are behind each place f has below = elim (cases_lt place at) as (λ _. IsWrittenAt changes place f) [
    | inl first ↦ behind place f has first
    | inr later ↦ puts_cover at until files writes are each place f has later below
  ]

  pub written_told : (h : HasFirstUnits filing changes region) (files : List NamedFile) (at until : ℕ) (writes : List Written) → ArePuts at until files writes → region_start region ≤ at → until ≤ region_stop region → IsBehindWritten filing changes region at
      → ((w : Written) → Among w writes → Contains changes (Write w.entry w.bytes)) → All (PutsUnitOf region h.files) writes
  written_told h files at until writes are low high behind there =
      let slots : (w : Written) → Among w writes → Slot filing changes region w × (w.entry.at < until) = λ w a. slot_of at until files writes w are low high (there w a) a in
      let p : Parts until (region_start region) (filing region) = parts until (region_start region) (filing region) in
      let whole = front_told filing changes region h p.front p.rest p.split
      (λ place f has. all_written files at until writes are behind (λ w a. (slots w a).0) place f (subst (λ fs. HasUnitAt (region_start region) fs place f) (sym p.split) (in_front (region_start region) p.front p.rest place f has)) (p.low place f has)) in
      All-from_recursion (PutsUnitOf region h.files) writes
      (all_told writes h.files (λ w a.
      let s = slots w a in
      let in_it : HasUnitAt (region_start region) p.front w.entry.at s.0.f = p.all w.entry.at s.0.f s.0.has s.1 in
      (s.0.f, subst (λ fs. HasUnitAt (region_start region) fs w.entry.at s.0.f) (sym whole.1) (in_front (region_start region) p.front whole.0 w.entry.at s.0.f in_it), s.0.spelled)))

-- ---- a reader's cut

changed : (writes : List Written) (w : Written) → Among w writes → Among (change_of w) (map change_of writes)
changed [] w a = absurd a
changed (v ∷ writes) w (inl same) = inl (ap (λ x. change_of x) same)
changed (v ∷ writes) w (inr later) = inr (changed writes w later)

pub later_told : (filing : Filing) (start end : Moment) (room : ℕ) (cut : List Gathered) (truncs : List Trunc) (region : ℕ) (files : List NamedFile) (at until : ℕ) (d : Dropping) (writes : List Written) → HasView start end room cut truncs → HasOnlyUnits filing end room → HoldsWrites end cut d writes
    → ArePuts at until files writes → region_start region ≤ at → until ≤ region_stop region → IsBehindWritten filing (changes_in end cut truncs) region at → (h : HasFirstUnits filing (changes_in end cut truncs) region) → All (PutsUnitOf region h.files) writes
later_told filing start end room cut truncs region files at until d writes v has holds are low high behind h =
    written_told filing (changes_in end cut truncs) region (cut_units filing start end room cut truncs has v) h files at until writes are low high behind
    (λ w a. Contains-from_Among (changes_in end cut truncs) (change_of w) (among_left (change_of w) (map change_of (writes_in end cut)) (map cut_off truncs)
    (changed (writes_in end cut) w (among (writes_in end cut) w (all_at (λ (x : Written). IsAmong x (writes_in end cut)) writes w holds.each a)))))
