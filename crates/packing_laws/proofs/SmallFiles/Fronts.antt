-- Which written units a region tells, and which unit answers for a name.
use Rattle.std.proofs.Common.{◌≡◌, ◌⊎◌, inl, inr, ℕ, ◌+◌, ◌-◌, ◌<◌, ◌≤◌, List, [], ◌∷◌, ◌++◌, length, drop, Option, Some, None, Ok, refl, sym, ap, ◌∙◌, subst, arith}
use Rattle.std.specs.List.{All, Contains}
use Rattle.std.proofs.lemmas.Bool.{cases_eq}
use Rattle.std.proofs.lemmas.List.{take-append-drop}
use Rattle.std.proofs.lemmas.List.Elements.{All-contains}
use Rattle.plfs_types.specs.declared.entries.Key.{Key}
use Rattle.plain_file.specs.File.{slice}
use Rattle.plain_file.specs.declared.changes.Change.{Change}
use Rattle.plain_file.specs.declared.pieces.Piece.{Piece}
use Rattle.plain_file.proofs.Facts.{Among, Contains-from_Among}
use Rattle.mount_model.specs.Paths.{Name}
use Rattle.mount_model.specs.State.{State}
use Rattle.unit_format.specs.Finding.{AllOlder, ComesBefore, IsFileOf, IsOlder, NoNewer}
use Rattle.unit_format.specs.declared.finding.Region.{Region}
use Rattle.unit_format.specs.declared.finding.Unit.{Unit as Found}
use Rattle.unit_format.specs.declared.units.TheConstants.{REGIONS}
use Rattle.unit_format.specs.Units.{SmallFile, unit_size, unit_spelling, units_spelling}
use Rattle.pack_laws.specs.Scanned.{TellsUnits, region_start}
use Rattle.packing_laws.specs.Told.{AreRegionsFrom, IsContent, StandsIn}
use Rattle.packing_laws.proofs.Unpacking.Facts.{region_there}
use Rattle.packing_laws.specs.Answered.{IsOutranked}
use Rattle.packing_laws.specs.HasOnly.{HasFirstUnits, IsWrittenAt}
use Rattle.packing_laws.specs.Isolated.{HasUnit}
use Rattle.packing_laws.specs.OnlyUnits.{Filing, HasUnitAt}
use Rattle.packing_laws.proofs.SmallFiles.OneSpelling.{one_unit, told_alike}
use Rattle.packing_laws.proofs.SmallFiles.Places.{units_long}

-- ---- units that are written, one behind the other

-- of two fronts of one list one begins the other
two_fronts : (xs ys a b : List SmallFile) → xs ++ a ≡ ys ++ b → ((more : List SmallFile) × (xs ≡ ys ++ more)) ⊎ ((g : SmallFile) × (more rest : List SmallFile) × (ys ≡ xs ++ g ∷ more) × (a ≡ g ∷ rest))
two_fronts xs [] a b is = inl (xs, refl)
two_fronts [] (y ∷ ys) a b is = inr (y, ys, ys ++ b, refl, is)
two_fronts (x ∷ xs) (y ∷ ys) a b is =
    let first : x ≡ y = cc in
    let rest : xs ++ a ≡ ys ++ b = cc in
    elim (two_fronts xs ys a b rest) [
      | inl (more, split) ↦ inl (more, (λ i. first i ∷ split i))
      | inr (g, more, behind, split, same) ↦ inr (g, more, behind, (λ i. sym first i ∷ split i), same)
    ]

-- the unit behind the first ones
unit_behind : (from : ℕ) (first more : List SmallFile) (g : SmallFile) (place : ℕ) → place ≡ from + length (units_spelling first) → HasUnitAt from (first ++ g ∷ more) place g
unit_behind from [] more g place is = inl (omega (arith, is), refl)
unit_behind from (f ∷ first) more g place is = inr (unit_behind (from + unit_size f) first more g place (omega (arith, is, units_long f first)))

pub front_told : (filing : Filing) (changes : List Change) (region : ℕ) (h : HasFirstUnits filing changes region) (front rest : List SmallFile) → filing region ≡ front ++ rest → ((place : ℕ) (f : SmallFile) → HasUnitAt (region_start region) front place f → IsWrittenAt changes place f)
    → (more : List SmallFile) × (h.files ≡ front ++ more)
front_told filing changes region h front rest split written = elim (two_fronts h.files front h.others rest (sym h.split ∙ split)) [
  | inl has ↦ has
  | inr (g, more, behind, is, next) ↦
      let at : HasUnitAt (region_start region) (h.files ++ g ∷ more) h.end g = unit_behind (region_start region) h.files more g h.end h.has.ends in
      absurd (h.next g behind next (written h.end g (subst (λ fs. HasUnitAt (region_start region) fs h.end g) (sym is) at)))
]

-- ---- the unit that answers

-- the region of this number among all
nth_region : (pieces : List Piece) (file : List ℕ) (from n : ℕ) (regions : List Region) → AreRegionsFrom pieces file from regions → from ≤ n → n < from + length regions → (r : Region) × Among r regions × TellsUnits pieces n file r
nth_region pieces file from n [] are low high = absurd (omega (arith, low, high))
nth_region pieces file from n (r ∷ regions) are low high = elim (cases_eq from n) [
  | inl here ↦ (r, inl refl, subst (λ k. TellsUnits pieces k file r) here are.0)
  | inr other ↦ (let x = nth_region pieces file (from + 1) n regions are.1 (omega (arith, low, other)) (omega (arith, high)) in (x.0, inr x.1, x.2))
]

one_of_parts : (r : Region) (before : List Region) (c : Region) (behind : List Region) → Among r (before ++ c ∷ behind) → Among r before ⊎ ((r ≡ c) ⊎ Among r behind)
one_of_parts r [] c behind (inl same) = inr (inl same)
one_of_parts r [] c behind (inr later) = inr (inr later)
one_of_parts r (b ∷ before) c behind (inl same) = inl (inl same)
one_of_parts r (b ∷ before) c behind (inr later) = elim (one_of_parts r before c behind later) [
  | inl first ↦ inl (inr first)
  | inr rest ↦ inr rest
]

not_both : (k l : Key) → IsOlder k l → IsOlder l k → ⊥
not_both k l (inl a) (inl b) = omega (arith, a, b)
not_both k l (inl a) (inr b) = omega (arith, a, b.0)
not_both k l (inr a) (inl b) = omega (arith, a.0, b)
not_both k l (inr a) (inr b) = omega (arith, a.1, b.1)

-- the unit that counts isn't older than any of its name
no_older : (regions : List Region) (name : Name) (v u : Found) (r : Region) → IsFileOf regions name v → Among r regions → Contains r.units u → u.name ≡ name → IsOlder v.key u.key → ⊥
no_older regions name v u r is among has named older = elim (one_of_parts r is.before is.region is.behind (subst (λ rs. Among r rs) is.split among)) [
  | inl first ↦ All-contains (λ (w : Found). w.name ≡ name → IsOlder v.key w.key → ⊥) r.units u (All-contains (NoNewer name v.key) is.before r is.earlier (Contains-from_Among is.before r first)) has named older
  | inr (inl same) ↦ All-contains (λ (w : Found). w.name ≡ name → ComesBefore v w → ⊥) is.region.units u is.newest.newest (subst (λ q. Contains q.units u) same has) named (inl older)
  | inr (inr last) ↦ not_both v.key u.key older (All-contains (λ (w : Found). w.name ≡ name → IsOlder w.key v.key) r.units u (All-contains (AllOlder name v.key) is.behind r is.later (Contains-from_Among is.behind r last)) has named)
]

-- the spelling at one place tells one small file
same_place : (file : List ℕ) (u v : Found) (f g : SmallFile) → StandsIn file u f → StandsIn file v g → u.at ≡ v.at → length u.name ≡ length v.name → f ≡ g
same_place file u v f g of_f of_g at names =
    let place : u.at - (16 + length u.name) ≡ v.at - (16 + length v.name) = omega (arith, at, names) in
    alike (u.at - (16 + length u.name)) of_f.spelled (ap (λ n. slice file n (unit_size g)) place ∙ of_g.spelled)
  where
    alike : (n : ℕ) → slice file n (unit_size f) ≡ unit_spelling f → slice file n (unit_size g) ≡ unit_spelling g → f ≡ g
    alike n a b = (one_unit f g (drop (unit_size f) (drop n file)) (drop (unit_size g) (drop n file)) of_f.small of_g.small
        (sym (ap (λ bs. bs ++ drop (unit_size f) (drop n file)) a) ∙ take-append-drop (unit_size f) (drop n file) ∙ sym (take-append-drop (unit_size g) (drop n file)) ∙ ap (λ bs. bs ++ drop (unit_size g) (drop n file)) b)).0

pub answers_or_outranked : (pieces : List Piece) (file : List ℕ) (name : Name) (from end : State) (told : Option (List ℕ)) (region : ℕ) (u : Found) (f : SmallFile) → region < REGIONS → IsContent pieces file name from end (Ok told) → HasUnit pieces file region u f → u.name ≡ name
    → (told ≡ Some f.content) ⊎ IsOutranked pieces file name u
answers_or_outranked pieces file name from end None region u f known h has named =
    let x = nth_region pieces file 0 region h.regions h.are.each (omega arith) (omega (arith, known, h.are.all)) in
    let there : Contains x.0.units u = subst (λ us. Contains us u) (told_alike pieces region file has.r x.0 has.tells x.2) has.has in
    absurd (All-contains (λ (w : Found). w.name ≡ name → ⊥) x.0.units u (All-contains (λ (q : Region). All (λ (w : Found). w.name ≡ name → ⊥) q.units) h.regions x.0 h.none (Contains-from_Among h.regions x.0 x.1)) there named)
answers_or_outranked pieces file name from end (Some content) region u f known h has named =
    let c : IsFileOf h.regions name h.unit = h.counts in
    let x = nth_region pieces file 0 region h.regions h.are.each (omega arith) (omega (arith, known, h.are.all)) in
    let there : Contains x.0.units u = subst (λ us. Contains us u) (told_alike pieces region file has.r x.0 has.tells x.2) has.has in
    let its = region_there pieces file 0 c.before c.region c.behind (subst (λ (rs : List Region). AreRegionsFrom pieces file 0 rs) c.split h.are.each) in
    let g : SmallFile = record { name = name; content = content } in
    elim (cases_eq u.at h.unit.at) as (λ _. (Some content ≡ Some f.content) ⊎ IsOutranked pieces file name u) [
      | inl same ↦
          let files : f ≡ g = same_place file u h.unit f g has.stands h.stands same (ap (λ (bs : List ℕ). length bs) (named ∙ sym c.newest.named)) in
          inl (ap (λ (z : SmallFile). Some z.content) (sym files))
      | inr other ↦ inr (record {
        region = its.0;
        unit = h.unit;
        file_is = g;
        has = record { r = c.region; tells = its.1; has = c.newest.there; stands = h.stands };
        named = c.newest.named;
        apart = λ at. other (sym at);
        no_older = no_older h.regions name h.unit u x.0 c x.1 there named;
      })
    ]
