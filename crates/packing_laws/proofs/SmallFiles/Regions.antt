-- A region of a file that was written by units alone has the first of them, and then no more.
use Rattle.std.proofs.Common.{◌≡◌, ℕ, zero, suc, ◌+◌, ◌-◌, ◌*◌, ◌<◌, ◌≤◌, inl, inr, List, [], ◌∷◌, ◌++◌, length, take, drop, get_or, Option, Some, None, refl, sym, ap, ◌∙◌, subst, arith}
use Rattle.std.specs.Prelude.{slice_index, MatchOption}
use Rattle.std.specs.List.{All, AllByRecursion}
use Rattle.std.proofs.Math.Seq.{take-add}
use Rattle.std.proofs.lemmas.Bool.{cases_lt}
use Rattle.std.proofs.lemmas.List.{append_assoc, drop-drop, ext_get_or, get_or-drop, get_or-take, get_or_past, length-drop, length-take}
use Rattle.std.proofs.lemmas.List.Elements.{All-contains, recursion_from_All}
use Rattle.index_entry.specs.Records.{IsBytes}
use Rattle.plfs_types.specs.declared.entries.Entry.{Entry}
use Rattle.plain_file.specs.declared.changes.Change.{Change}
use Rattle.plain_file.specs.declared.changes.Change.TheVariants.{Write, Truncate}
use Rattle.plain_file.specs.File.{HasItsBytes, slice}
use Rattle.plain_file.specs.Shows.{IsByteOf, ShowsNewest, truncs_of, write_at}
use Rattle.plain_file.proofs.Facts.{Among, Among-at, cases_Option}
use Rattle.unit_format.specs.declared.units.TheConstants.{REGIONS, REGION_SIZE}
use Rattle.unit_format.specs.Regions.{IsRegion}
use Rattle.unit_format.specs.Units.{SmallFile, unit_size, unit_spelling, units_spelling}
use Rattle.packing_laws.specs.OnlyUnits.{AreOnlyUnits, Filing, HasUnitAt, IsByteFile, PutsUnit}
use Rattle.packing_laws.proofs.SmallFiles.Covered.{covered_shows, entry_among, shown_covers}
use Rattle.packing_laws.proofs.SmallFiles.Places.{its_file, stand_apart, stands_from, stands_until, unit_bytes, unit_long, unit_some, units_long}

-- ---- lists of bytes

-- a part of a file whose bytes are these
part_is : (file : List ℕ) (place : ℕ) (part : List ℕ) → ((x : ℕ) → place ≤ x → x < place + length part → (x < length file) × (slice_index file x ≡ slice_index part (x - place))) → slice file place (length part) ≡ part
part_is file place part each = ext_get_or 0 (slice file place (length part)) part (long (length part) refl) (λ i l. at i (omega (arith, l, long (length part) refl)))
  where
    long : (n : ℕ) → n ≡ length part → length (slice file place (length part)) ≡ length part
    long zero none = omega (arith, none, length-take (length part) (drop place file))
    long (suc n) some =
        let last : place + n < length file = (each (place + n) (omega arith) (omega (arith, some))).0 in
        omega (arith, some, last, length-take (length part) (drop place file), length-drop place file)

    at : (i : ℕ) → i < length part → get_or (slice file place (length part)) i 0 ≡ get_or part i 0
    at i l =
        let same : place + i - place ≡ i = omega arith in
        get_or-take (length part) (drop place file) i 0 l ∙ get_or-drop place file i 0 ∙ (each (place + i) (omega arith) (omega (arith, l))).1 ∙ ap (λ k. get_or part k 0) same

zeros : (n : ℕ) (bytes : List ℕ) → ((i : ℕ) → i < n → get_or bytes i 0 ≡ 0) → AllByRecursion (λ (b : ℕ). b ≡ 0) (take n bytes)
zeros zero [] none = tt
zeros zero (b ∷ bytes) none = tt
zeros (suc n) [] none = tt
zeros (suc n) (b ∷ bytes) none = (none 0 (omega arith), zeros n bytes (λ i l. none (suc i) (omega (arith, l))))

-- a byte of a part, which may end before it
part_zero : (file : List ℕ) (place size i : ℕ) → (i < size → slice_index file (place + i) ≡ 0) → get_or (slice file place size) i 0 ≡ 0
part_zero file place size i none = elim (cases_lt i size) [
  | inl within ↦ get_or-take size (drop place file) i 0 within ∙ get_or-drop place file i 0 ∙ none within
  | inr past ↦ get_or_past (slice file place size) i 0 (omega (arith, past, length-take size (drop place file)))
]

-- a unit in front of the rest of a region
behind_unit : (file : List ℕ) (p size stop : ℕ) (unit : List ℕ) → p + size ≤ stop → slice file p size ≡ unit → slice file p (stop - p) ≡ unit ++ slice file (p + size) (stop - (p + size))
behind_unit file p size stop unit within is =
    let parts : stop - p ≡ size + (stop - (p + size)) = omega (arith, within) in
    ap (λ n. take n (drop p file)) parts ∙ take-add size (stop - (p + size)) (drop p file) ∙ ap (λ z. z ++ take (stop - (p + size)) (drop size (drop p file))) is
    ∙ ap (λ z. unit ++ take (stop - (p + size)) z) (drop-drop size p file)

-- ---- what shows at a byte

pub none_truncated : (filing : Filing) (changes : List Change) → AllByRecursion (PutsUnit filing) changes → truncs_of changes ≡ []
none_truncated filing [] all = refl
none_truncated filing (Write e bytes ∷ changes) all = none_truncated filing changes all.1
none_truncated filing (Truncate t ∷ changes) all = absurd all.0

-- a unit shows there
record ShowsUnit (filing : Filing) (changes : List Change) (file : List ℕ) (x : ℕ) : Type 0 where
  pub entry : Entry
  pub bytes : List ℕ
  pub among : Among (Write entry bytes) changes
  pub region : ℕ
  pub f : SmallFile
  pub known : region < REGIONS
  pub has : HasUnitAt (region * REGION_SIZE) (filing region) entry.at f
  pub spelled : bytes ≡ unit_spelling f
  pub long : entry.len ≡ unit_size f
  pub from : entry.at ≤ x
  pub until : x < entry.at + unit_size f
  pub byte : slice_index file x ≡ slice_index (unit_spelling f) (x - entry.at)

-- the first units of the files stand in the rest of a region, and no more
pub record Front (changes : List Change) (file : List ℕ) (p stop : ℕ) (files : List SmallFile) : Type 0 where
  pub told : List SmallFile
  pub others : List SmallFile
  pub split : files ≡ told ++ others
  pub end : ℕ
  pub region : IsRegion p stop (slice file p (stop - p)) told end
  -- each was written
  pub written : (q : ℕ) (g : SmallFile) → HasUnitAt p told q g → (e : Entry) × Among (Write e (unit_spelling g)) changes × (e.at ≡ q)
  -- nothing shows where the next one would begin
  pub next : (f : SmallFile) (more : List SmallFile) → others ≡ f ∷ more → write_at changes end ≡ None

module _ (filing : Filing) (changes : List Change) (file : List ℕ) (shows : ShowsNewest changes file) (full : All HasItsBytes changes) (only : AreOnlyUnits filing changes) where
  abbrev start : ℕ → ℕ
  start region = region * REGION_SIZE

  no_truncs : truncs_of changes ≡ []
  no_truncs = none_truncated filing changes (recursion_from_All (PutsUnit filing) changes only.each)

  shown : (x : ℕ) (e : Entry) → write_at changes x ≡ Some e → ShowsUnit filing changes file x
  shown x e is =
      let P : Option Entry → Type 0 = λ o. MatchOption o (slice_index file x ≡ 0) (IsByteOf changes x (slice_index file x)) in
      let of : IsByteOf changes x (slice_index file x) e = subst P is (shows.inside x) in
      let c = shown_covers changes x e is in
      let p : PutsUnit filing (Write e of.0) = All-contains (PutsUnit filing) changes (Write e of.0) only.each of.1 in
      let its : length of.0 ≡ e.len = All-contains HasItsBytes changes (Write e of.0) full of.1 in
      let long : e.len ≡ unit_size p.1 = sym its ∙ ap (λ (bs : List ℕ). length bs) p.4 ∙ unit_long p.1 in
      record {
        entry = e;
        bytes = of.0;
        among = Among-at changes of.1.0 (Write e of.0) of.1.1 of.1.2;
        region = p.0;
        f = p.1;
        known = p.2;
        has = p.3;
        spelled = p.4;
        long = long;
        from = c.0;
        until = omega (arith, c.1, long);
        byte = of.2 ∙ ap (λ (bs : List ℕ). slice_index bs (x - e.at)) p.4;
      }

  -- no other unit shows at a byte of a unit
  same_unit : (region p : ℕ) (f : SmallFile) (x : ℕ) → HasUnitAt (start region) (filing region) p f → p ≤ x → x < p + unit_size f → (s : ShowsUnit filing changes file x) → (s.entry.at ≡ p) × (s.f ≡ f)
  same_unit region p f x has from until s =
      let mine : p + unit_size f ≤ start region + length (units_spelling (filing region)) = stands_until (start region) (filing region) p f has in
      let low : start region ≤ p = stands_from (start region) (filing region) p f has in
      let fits : length (units_spelling (filing region)) ≤ REGION_SIZE = only.is_filing.fits region in
      let its : s.entry.at + unit_size s.f ≤ start s.region + length (units_spelling (filing s.region)) = stands_until (start s.region) (filing s.region) s.entry.at s.f s.has in
      let its_low : start s.region ≤ s.entry.at = stands_from (start s.region) (filing s.region) s.entry.at s.f s.has in
      let its_fits : length (units_spelling (filing s.region)) ≤ REGION_SIZE = only.is_filing.fits s.region in
      let same : s.region ≡ region = omega (arith, mine, low, fits, its, its_low, its_fits, from, until, s.from, s.until) in
      let here : HasUnitAt (start region) (filing region) s.entry.at s.f = subst (λ r. HasUnitAt (start r) (filing r) s.entry.at s.f) same s.has in
      stand_apart (start region) (filing region) s.entry.at p s.f f x here has s.from s.until from until

  -- where one of its bytes shows it, all do
  whole : (region p : ℕ) (f : SmallFile) (y : ℕ) (e : Entry) → HasUnitAt (start region) (filing region) p f → p ≤ y → y < p + unit_size f → write_at changes y ≡ Some e
      → (x : ℕ) → p ≤ x → x < p + unit_size f → (d : Entry) × (write_at changes x ≡ Some d) × (x < length file) × (slice_index file x ≡ slice_index (unit_spelling f) (x - p))
  whole region p f y e has from until is x low high =
      let s : ShowsUnit filing changes file y = shown y e is in
      let same = same_unit region p f y has from until s in
      let size : unit_size s.f ≡ unit_size f = ap (λ (g : SmallFile). unit_size g) same.1 in
      elim (cases_Option (write_at changes x)) as (λ _. (d : Entry) × (write_at changes x ≡ Some d) × (x < length file) × (slice_index file x ≡ slice_index (unit_spelling f) (x - p))) [
        | inl none ↦ absurd (covered_shows changes x s.entry no_truncs (entry_among changes s.entry s.bytes s.among) (omega (arith, same.0, low)) (omega (arith, same.0, high, s.long, size)) none)
        | inr (d, found) ↦
            let t : ShowsUnit filing changes file x = shown x d found in
            let alike = same_unit region p f x has low high t in
            (d, found, inside x d found, t.byte ∙ ap (λ g. slice_index (unit_spelling g) (x - t.entry.at)) alike.1 ∙ ap (λ n. slice_index (unit_spelling f) (x - n)) alike.0)
      ]
    where
      inside : (z : ℕ) (d : Entry) → write_at changes z ≡ Some d → z < length file
      inside z d found = elim (cases_lt z (length file)) [
        | inl within ↦ within
        | inr past ↦ let clash : None ≡ Some d = sym (shows.outside z past) ∙ found in absurd (cc)
      ]

  zero_there : (x : ℕ) → write_at changes x ≡ None → slice_index file x ≡ 0
  zero_there x none =
      let P : Option Entry → Type 0 = λ o. MatchOption o (slice_index file x ≡ 0) (IsByteOf changes x (slice_index file x)) in
      subst P none (shows.inside x)

  -- behind all its units a region has zeros
  past_all : (region x : ℕ) → start region + length (units_spelling (filing region)) ≤ x → x < start region + REGION_SIZE → slice_index file x ≡ 0
  past_all region x from until = elim (cases_Option (write_at changes x)) as (λ _. slice_index file x ≡ 0) [
    | inl none ↦ zero_there x none
    | inr (e, is) ↦
        let s : ShowsUnit filing changes file x = shown x e is in
        let its : s.entry.at + unit_size s.f ≤ start s.region + length (units_spelling (filing s.region)) = stands_until (start s.region) (filing s.region) s.entry.at s.f s.has in
        let low : start s.region ≤ s.entry.at = stands_from (start s.region) (filing s.region) s.entry.at s.f s.has in
        let fits : length (units_spelling (filing s.region)) ≤ REGION_SIZE = only.is_filing.fits s.region in
        let same : s.region ≡ region = omega (arith, its, low, fits, from, until, s.from, s.until) in
        let there : s.entry.at + unit_size s.f ≤ start region + length (units_spelling (filing region)) = subst (λ r. s.entry.at + unit_size s.f ≤ start r + length (units_spelling (filing r))) same its in
        absurd (omega (arith, there, from, s.until))
  ]

  -- nor has a unit that doesn't show at its first byte
  none_of : (region p : ℕ) (f : SmallFile) (x : ℕ) → HasUnitAt (start region) (filing region) p f → write_at changes p ≡ None → p ≤ x → x < p + unit_size f → slice_index file x ≡ 0
  none_of region p f x has none from until = elim (cases_Option (write_at changes x)) as (λ _. slice_index file x ≡ 0) [
    | inl unshown ↦ zero_there x unshown
    | inr (e, is) ↦
        let w = whole region p f x e has from until is p (omega arith) (omega (arith, from, until)) in
        let clash : None ≡ Some w.0 = sym none ∙ w.1 in
        absurd (cc)
  ]

  -- ---- unit by unit

  over_at : (p stop : ℕ) → ((x : ℕ) → p ≤ x → x < p + 8 → x < stop → slice_index file x ≡ 0) → IsRegion p stop (slice file p (stop - p)) [] p
  over_at p stop none = record {
    rest = slice file p (stop - p);
    small = tt;
    spelled = refl;
    ends = omega arith;
    over = inr (zeros 8 (slice file p (stop - p)) (λ i l. part_zero file p (stop - p) i (λ within. none (p + i) (omega arith) (omega (arith, l)) (omega (arith, within)))));
  }

  -- the first unit shows, so that it was written
  at_front : (region p : ℕ) (f : SmallFile) (e : Entry) (told : List SmallFile) (q : ℕ) (g : SmallFile) → HasUnitAt (start region) (filing region) p f → write_at changes p ≡ Some e → p < p + unit_size f
      → ((k : ℕ) (h : SmallFile) → HasUnitAt (p + unit_size f) told k h → (d : Entry) × Among (Write d (unit_spelling h)) changes × (d.at ≡ k)) → HasUnitAt p (f ∷ told) q g → (d : Entry) × Among (Write d (unit_spelling g)) changes × (d.at ≡ q)
  at_front region p f e told q g has is some rest (inl here) =
      let s : ShowsUnit filing changes file p = shown p e is in
      let same = same_unit region p f p has (omega arith) some s in
      let spelled : s.bytes ≡ unit_spelling g = s.spelled ∙ ap (λ h. unit_spelling h) (same.1 ∙ sym here.1) in
      (s.entry, subst (λ bs. Among (Write s.entry bs) changes) spelled s.among, same.0 ∙ sym here.0)
  at_front region p f e told q g has is some rest (inr later) = rest q g later

  front_from : (region : ℕ) (p : ℕ) (files : List SmallFile) → start region ≤ p → p + length (units_spelling files) ≡ start region + length (units_spelling (filing region)) → ((q : ℕ) (g : SmallFile) → HasUnitAt p files q g → HasUnitAt (start region) (filing region) q g) → AllByRecursion IsByteFile files
      → Front changes file p (start region + REGION_SIZE) files
  front_from region p [] from ends at all = record {
    told = [];
    others = [];
    split = refl;
    end = p;
    region = over_at p (start region + REGION_SIZE) (λ x low near high. past_all region x (omega (arith, ends, low)) high);
    written = λ q g none. absurd none;
    next = λ f more is. absurd (cc);
  }
  front_from region p (f ∷ files) from ends at all =
      let stop : ℕ = start region + REGION_SIZE in
      let has : HasUnitAt (start region) (filing region) p f = at p f (inl (refl, refl)) in
      let within : p + unit_size f ≤ stop = omega (arith, stands_until (start region) (filing region) p f has, only.is_filing.fits region) in
      elim (cases_Option (write_at changes p)) as (λ _. Front changes file p stop (f ∷ files)) [
        | inl none ↦ record {
          told = [];
          others = f ∷ files;
          split = refl;
          end = p;
          written = λ q g empty. absurd empty;
          region = over_at p stop (λ x low near high. none_of region p f x has none low (omega (arith, near, unit_some f all.0.small)));
          next = λ g more is. none;
        }
        | inr (e, is) ↦
            let size : length (unit_spelling f) ≡ unit_size f = unit_long f in
            let unit : slice file p (length (unit_spelling f)) ≡ unit_spelling f =
            part_is file p (unit_spelling f) (λ x low high. let w = whole region p f p e has (omega arith) (omega (arith, unit_some f all.0.small)) is x low (omega (arith, high, size)) in (w.2, w.3)) in
            let here : slice file p (unit_size f) ≡ unit_spelling f = ap (λ n. slice file p n) (sym size) ∙ unit in
            let r : Front changes file (p + unit_size f) stop files = front_from region (p + unit_size f) files (omega (arith, from)) (omega (arith, ends, units_long f files)) (λ q g later. at q g (inr later)) all.1 in
            record {
              told = f ∷ r.told;
              others = r.others;
              split = ap (λ z. f ∷ z) r.split;
              end = r.end;
              region = record {
                rest = r.region.rest;
                small = (all.0.small, r.region.small);
                spelled = behind_unit file p (unit_size f) stop (unit_spelling f) within here ∙ ap (λ z. unit_spelling f ++ z) r.region.spelled ∙ sym (append_assoc (unit_spelling f) (units_spelling r.told) r.region.rest);
                ends = omega (arith, r.region.ends, units_long f r.told);
                over = r.region.over;
              };
              written = λ q g has_it. at_front region p f e r.told q g has is (omega (arith, unit_some f all.0.small)) r.written has_it;
              next = r.next;
            }
      ]

  -- a region has its first units, those that show one behind the other from its start on
  pub front : (region : ℕ) → Front changes file (start region) (start region + REGION_SIZE) (filing region)
  front region = front_from region (start region) (filing region) (omega arith) refl (λ q g has. has) (only.is_filing.files region)

  -- ---- bytes

  pub are_bytes : IsBytes file
  are_bytes i = elim (cases_Option (write_at changes i)) as (λ _. get_or file i 0 < 256) [
    | inl none ↦ let zero_is : slice_index file i ≡ 0 = zero_there i none in omega (arith, zero_is)
    | inr (e, is) ↦
        let s : ShowsUnit filing changes file i = shown i e is in
        let b : IsByteFile s.f = its_file (start s.region) (filing s.region) s.entry.at s.f (only.is_filing.files s.region) s.has in
        let low : get_or (unit_spelling s.f) (i - s.entry.at) 0 < 256 = unit_bytes s.f b (i - s.entry.at) in
        let same : get_or file i 0 ≡ get_or (unit_spelling s.f) (i - s.entry.at) 0 = s.byte in
        omega (arith, low, same)
  ]
