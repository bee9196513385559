-- The unit that a region tells stands in the file.
use Rattle.std.proofs.Common.{◌≡◌, ℕ, ◌+◌, ◌-◌, min, List, [], ◌∷◌, ◌++◌, length, drop, refl, sym, ap, subst, ◌∙◌, inl, inr, ◌⊎◌, arith}
use Rattle.std.specs.List.{AllByRecursion, Contains}
use Rattle.std.specs.Int.{w64, to_le_bytes}
use Rattle.std.proofs.lemmas.List.{append_assoc, length-append}
use Rattle.std.proofs.lemmas.List.Elements.{All-contains, All-nil, Contains-append_cases, Contains-push_cases}
use Rattle.plain_file.specs.File.{slice}
use Rattle.plain_file.specs.declared.pieces.Piece.{Piece}
use Rattle.mount_model.specs.Paths.{Name}
use Rattle.unit_format.specs.declared.finding.Region.{Region}
use Rattle.unit_format.specs.declared.finding.Unit.{Unit as Found}
use Rattle.unit_format.specs.declared.units.TheConstants.{MAX_CONTENT, REGION_SIZE}
use Rattle.unit_format.specs.Regions.{placed_at, places_of}
use Rattle.unit_format.specs.Units.{SmallFile, IsSmallFile, unit_size, unit_spelling, units_spelling}
use Rattle.pack_files.specs.Scanning.{unit_of, units_of}
use Rattle.pack_laws.specs.Scanned.{TellsUnits, region_bytes, region_start}
use Rattle.packing_laws.specs.Told.{AreRegionsFrom, StandsIn}
use Rattle.packing_laws.proofs.Unpacking.Slices.{sliced, unsliced}

one_of : {X : Type 0} (x y : X) (xs : List X) → Contains (x ∷ xs) y → (x ≡ y) ⊎ Contains xs y
one_of x y xs has = elim (Contains-append_cases (x ∷ []) xs y has) [
  | inl first ↦ elim (Contains-push_cases [] x y first) [
    | inl none ↦ absurd (All-contains (λ z. ⊥) [] y (All-nil (λ z. ⊥)) none)
    | inr same ↦ inl same
  ]
  | inr later ↦ inr later
]

spelling_long : (f : SmallFile) → length (unit_spelling f) ≡ unit_size f
spelling_long f =
    let all : length (unit_spelling f) ≡ 16 + length (f.name ++ f.content) = omega arith in
    omega (arith, all, length-append f.name f.content)

-- among these bytes the unit is that of a small file
pub record IsUnitAt (pieces : List Piece) (start : ℕ) (bytes : List ℕ) (u : Found) : Type 0 where
  pub f : SmallFile
  pub small : IsSmallFile f
  pub before : List ℕ
  pub behind : List ℕ
  pub split : bytes ≡ before ++ (unit_spelling f ++ behind)
  pub is : u ≡ unit_of pieces (placed_at (start + length before) f)

unit_at : (pieces : List Piece) (start : ℕ) (files : List SmallFile) (rest bytes : List ℕ) (u : Found) → AllByRecursion IsSmallFile files → bytes ≡ units_spelling files ++ rest
    → Contains (units_of pieces (places_of start files)) u → IsUnitAt pieces start bytes u
unit_at pieces start [] rest bytes u small split has = absurd (All-contains (λ (z : Found). ⊥) [] u (All-nil (λ (z : Found). ⊥)) has)
unit_at pieces start (f ∷ files) rest bytes u small split has = elim (one_of (unit_of pieces (placed_at start f)) u (units_of pieces (places_of (start + unit_size f) files)) has) [
  | inl here ↦
      let place : start ≡ start + 0 = omega arith in
      record {
        f = f;
        small = small.0;
        before = [];
        behind = units_spelling files ++ rest;
        split = split ∙ append_assoc (unit_spelling f) (units_spelling files) rest;
        is = sym here ∙ ap (λ (n : ℕ). unit_of pieces (placed_at n f)) place;
      }
  | inr later ↦
      let r : IsUnitAt pieces (start + unit_size f) (units_spelling files ++ rest) u = unit_at pieces (start + unit_size f) files rest (units_spelling files ++ rest) u small.1 refl later in
      let place : start + unit_size f + length r.before ≡ start + length (unit_spelling f ++ r.before) = omega (arith, length-append (unit_spelling f) r.before, spelling_long f) in
      record {
        f = r.f;
        small = r.small;
        before = unit_spelling f ++ r.before;
        behind = r.behind;
        split = split ∙ append_assoc (unit_spelling f) (units_spelling files) rest ∙ ap (λ (xs : List ℕ). unit_spelling f ++ xs) r.split
            ∙ sym (append_assoc (unit_spelling f) r.before (unit_spelling r.f ++ r.behind));
        is = r.is ∙ ap (λ (n : ℕ). unit_of pieces (placed_at n r.f)) place;
      }
]

pub unit_in : (pieces : List Piece) (region : ℕ) (file : List ℕ) (r : Region) (u : Found) → TellsUnits pieces region file r → Contains r.units u → IsUnitAt pieces (region_start region) (region_bytes region file) u
unit_in pieces region file r u told has =
    unit_at pieces (region_start region) told.files told.has.rest (region_bytes region file) u told.has.small told.has.spelled (subst (λ (units : List Found). Contains units u) told.units has)

-- ---- its content

abbrev head_of : SmallFile → List ℕ
head_of f = to_le_bytes w64 (length f.name) ++ to_le_bytes w64 (length f.content) ++ f.name

head_long : (f : SmallFile) → length (head_of f) ≡ 16 + length f.name
head_long f = omega arith

headed : (f : SmallFile) → unit_spelling f ≡ head_of f ++ f.content
headed f = simp append_assoc

pub unit_stands : (pieces : List Piece) (region : ℕ) (file : List ℕ) (r : Region) (u : Found) (name : Name) (content : List ℕ) → TellsUnits pieces region file r → Contains r.units u → u.name ≡ name
    → content ≡ slice file u.at (min u.len MAX_CONTENT) → StandsIn file u (record { name = name; content = content })
unit_stands pieces region file r u name content told has named read =
    let start : ℕ = region_start region in
    let x : IsUnitAt pieces start (region_bytes region file) u = unit_in pieces region file r u told has in
    let behind : List ℕ = x.behind ++ drop REGION_SIZE (drop start file) in
    let there : drop start file ≡ x.before ++ (unit_spelling x.f ++ behind) = unsliced file start REGION_SIZE x.before (unit_spelling x.f) x.behind x.split in
    let apart : drop start file ≡ (x.before ++ head_of x.f) ++ (x.f.content ++ behind) =
    there ∙ ap (λ (xs : List ℕ). x.before ++ (xs ++ behind)) (headed x.f) ∙ ap (λ (xs : List ℕ). x.before ++ xs) (append_assoc (head_of x.f) x.f.content behind)
    ∙ sym (append_assoc x.before (head_of x.f) (x.f.content ++ behind)) in
    let whole : slice file (start + length x.before) (length (unit_spelling x.f)) ≡ unit_spelling x.f = sliced file start x.before (unit_spelling x.f) behind there in
    let inner : slice file (start + length (x.before ++ head_of x.f)) (length x.f.content) ≡ x.f.content = sliced file start (x.before ++ head_of x.f) x.f.content behind apart in
    let at : u.at ≡ start + length x.before + 16 + length x.f.name = ap (λ (v : Found). v.at) x.is in
    let len : u.len ≡ length x.f.content = ap (λ (v : Found). v.len) x.is in
    let called : u.name ≡ x.f.name = ap (λ (v : Found). v.name) x.is in
    let long : length u.name ≡ length x.f.name = ap (λ (xs : List ℕ). length xs) called in
    let parts : length (x.before ++ head_of x.f) ≡ length x.before + length (head_of x.f) = length-append x.before (head_of x.f) in
    let from : u.at ≡ start + length (x.before ++ head_of x.f) = omega (arith, at, parts, head_long x.f) in
    let much : min u.len MAX_CONTENT ≡ length x.f.content = omega (arith, len, x.small.small) in
    let place : u.at - (16 + length u.name) ≡ start + length x.before = omega (arith, at, long) in
    let same_content : x.f.content ≡ content = sym (read ∙ ap (λ (n : ℕ). slice file n (min u.len MAX_CONTENT)) from ∙ ap (λ (n : ℕ). slice file (start + length (x.before ++ head_of x.f)) n) much ∙ inner) in
    let same_name : x.f.name ≡ name = sym called ∙ named in
    let same : x.f ≡ record { name = name; content = content } = λ i. record { name = same_name i; content = same_content i } in
    let stands : StandsIn file u x.f = record {
      small = x.small;
      named = called;
      spelled = ap (λ (n : ℕ). slice file n (unit_size x.f)) place ∙ ap (λ (n : ℕ). slice file (start + length x.before) n) (sym (spelling_long x.f)) ∙ whole;
    } in
    subst (λ (f : SmallFile). StandsIn file u f) same stands

-- ---- a region among all

pub region_there : (pieces : List Piece) (file : List ℕ) (region : ℕ) (before : List Region) (r : Region) (behind : List Region) → AreRegionsFrom pieces file region (before ++ r ∷ behind) → (n : ℕ) × TellsUnits pieces n file r
region_there pieces file region [] r behind are = (region, are.0)
region_there pieces file region (q ∷ before) r behind are = region_there pieces file (region + 1) before r behind are.1
