-- Files that hold the same units of a name give the same answer for it.
use Rattle.std.proofs.Common.{◌≡◌, ℕ, ◌+◌, ◌-◌, min, List, [], ◌∷◌, ◌++◌, length, drop, Option, Some, None, Ok, refl, sym, ap, ◌∙◌, subst, arith}
use Rattle.std.specs.List.{All, AllByRecursion, Contains}
use Rattle.std.proofs.lemmas.List.{take-append-drop}
use Rattle.std.proofs.lemmas.List.Elements.{All-from_recursion}
use Rattle.plain_file.specs.File.{slice}
use Rattle.plain_file.specs.declared.pieces.Piece.{Piece}
use Rattle.mount_model.specs.Paths.{Name}
use Rattle.mount_model.specs.State.{State}
use Rattle.unit_format.specs.Alike.{AreAlike, HasSame, StandApart}
use Rattle.unit_format.specs.Finding.{IsFileOf, IsFound}
use Rattle.unit_format.specs.declared.finding.Region.{Region}
use Rattle.unit_format.specs.declared.finding.Unit.{Unit as Found}
use Rattle.unit_format.specs.declared.units.TheConstants.{MAX_CONTENT}
use Rattle.unit_format.specs.Units.{SmallFile, unit_size, unit_spelling}
use Rattle.pack_laws.specs.Scanned.{TellsUnits}
use Rattle.packing_laws.specs.Told.{AreRegions, AreRegionsFrom, HasContent, IsContent, StandsIn}
use Rattle.packing_laws.proofs.Unpacking.Facts.{region_there, unit_stands}
use Rattle.packing_laws.specs.Isolated.{HasUnit, HaveSameUnits}
use Rattle.packing_laws.proofs.SmallFiles.OneSpelling.{one_unit, told_alike}

-- what laws say: the units of a region stand apart, and others change nothing
abbrev pub ApartLaw : Type 0
ApartLaw = (pieces : List Piece) (region : ℕ) (file : List ℕ) (r : Region) → TellsUnits pieces region file r → StandApart r.units

abbrev pub OthersLaw : Type 0
OthersLaw = (name : List ℕ) (a b : List Region) (one other : Option Found) → All (λ (r : Region). StandApart r.units) a → AreAlike name a b → IsFound a name one → IsFound b name other → one ≡ other

module _ (name : Name) (p : List Piece) (one : List ℕ) (q : List Piece) (other : List ℕ) (same : HaveSameUnits name p one q other) where
  -- the small file of a unit
  abbrev file_of : List ℕ → Found → SmallFile
  file_of file u = record { name = u.name; content = slice file u.at (min u.len MAX_CONTENT) }

  had : (pieces : List Piece) (file : List ℕ) (n : ℕ) (r : Region) (u : Found) → TellsUnits pieces n file r → Contains r.units u → HasUnit pieces file n u (file_of file u)
  had pieces file n r u tells has = record { r = r; tells = tells; has = has; stands = unit_stands pieces n file r u u.name (slice file u.at (min u.len MAX_CONTENT)) tells has refl refl }

  has_same : (n : ℕ) (r s : Region) → TellsUnits p n one r → TellsUnits q n other s → HasSame name r s
  has_same n r s of_r of_s u named = (
    λ has. (let h = (same n u (file_of one u) named).0 (had p one n r u of_r has) in subst (λ us. Contains us u) (told_alike q n other h.r s h.tells of_s) h.has),
    λ has. (let h = (same n u (file_of other u) named).1 (had q other n s u of_s has) in subst (λ us. Contains us u) (told_alike p n one h.r r h.tells of_r) h.has),
  )

  alike : (n : ℕ) (a b : List Region) → length a ≡ length b → AreRegionsFrom p one n a → AreRegionsFrom q other n b → AreAlike name a b
  alike n [] [] long of_a of_b = tt
  alike n [] (s ∷ b) long of_a of_b = absurd (omega (arith, long))
  alike n (r ∷ a) [] long of_a of_b = absurd (omega (arith, long))
  alike n (r ∷ a) (s ∷ b) long of_a of_b = (has_same n r s of_a.0 of_b.0, alike (n + 1) a b (omega (arith, long)) of_a.1 of_b.1)

  all_apart : ApartLaw → (n : ℕ) (a : List Region) → AreRegionsFrom p one n a → AllByRecursion (λ (r : Region). StandApart r.units) a
  all_apart law n [] of_a = tt
  all_apart law n (r ∷ a) of_a = (law p n one r of_a.0, all_apart law (n + 1) a of_a.1)

  found_same : ApartLaw → OthersLaw → (a b : List Region) → AreRegions p one a → AreRegions q other b → (u v : Option Found) → IsFound a name u → IsFound b name v → u ≡ v
  found_same apart others a b of_a of_b u v is so =
      others name a b u v (All-from_recursion (λ (r : Region). StandApart r.units) a (all_apart apart 0 a of_a.each)) (alike 0 a b (of_a.all ∙ sym of_b.all) of_a.each of_b.each) is so

  -- the spelling at a place tells the small file
  stands_alike : (file : List ℕ) (u : Found) (f g : SmallFile) → StandsIn file u f → StandsIn file u g → f ≡ g
  stands_alike file u f g of_f of_g =
      let place : ℕ = begins u in
      let a : drop place file ≡ unit_spelling f ++ drop (unit_size f) (drop place file) = sym (take-append-drop (unit_size f) (drop place file)) ∙ ap (λ bs. bs ++ drop (unit_size f) (drop place file)) of_f.spelled in
      let b : drop place file ≡ unit_spelling g ++ drop (unit_size g) (drop place file) = sym (take-append-drop (unit_size g) (drop place file)) ∙ ap (λ bs. bs ++ drop (unit_size g) (drop place file)) of_g.spelled in
      (one_unit f g (drop (unit_size f) (drop place file)) (drop (unit_size g) (drop place file)) of_f.small of_g.small (sym a ∙ b)).0
    where
      begins : Found → ℕ
      begins v = v.at - (16 + length v.name)

  contents_same : ApartLaw → OthersLaw → (x y : List ℕ) → HasContent p one name x → HasContent q other name y → x ≡ y
  contents_same apart others x y h k =
      let both : Some h.unit ≡ Some k.unit = found_same apart others h.regions k.regions h.are k.are (Some h.unit) (Some k.unit) h.counts k.counts in
      let unit : h.unit ≡ k.unit = cc in
      let c : IsFileOf h.regions name h.unit = h.counts in
      let there = region_there p one 0 c.before c.region c.behind (subst (λ (rs : List Region). AreRegionsFrom p one 0 rs) c.split h.are.each) in
      let first : SmallFile = record { name = name; content = x } in
      let second : SmallFile = record { name = name; content = y } in
      let its : HasUnit p one there.0 h.unit first = record { r = c.region; tells = there.1; has = c.newest.there; stands = h.stands } in
      let o : HasUnit q other there.0 h.unit first = (same there.0 h.unit first c.newest.named).0 its in
      let files : first ≡ second = stands_alike other h.unit first second o.stands (subst (λ u. StandsIn other u second) (sym unit) k.stands) in
      ap (λ (f : SmallFile). f.content) files

  pub answers_same : ApartLaw → OthersLaw → (from end since last : State) (x y : Option (List ℕ)) → IsContent p one name from end (Ok x) → IsContent q other name since last (Ok y) → x ≡ y
  answers_same apart others from end since last None None h k = refl
  answers_same apart others from end since last None (Some y) h k = (let both : None ≡ Some k.unit = found_same apart others h.regions k.regions h.are k.are None (Some k.unit) h.none k.counts in absurd (cc))
  answers_same apart others from end since last (Some x) None h k = (let both : Some h.unit ≡ None = found_same apart others h.regions k.regions h.are k.are (Some h.unit) None h.counts k.none in absurd (cc))
  answers_same apart others from end since last (Some x) (Some y) h k = ap (λ z. Some z) (contents_same apart others x y h k)
