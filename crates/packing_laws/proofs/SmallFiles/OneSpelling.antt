-- Bytes begin with one unit at most, so a region has one list of units.
use Rattle.std.proofs.Common.{◌≡◌, ℕ, ◌+◌, ◌-◌, ◌≤◌, inl, inr, List, [], ◌∷◌, ◌++◌, length, take, drop, refl, sym, ap, ◌∙◌, subst, arith}
use Rattle.std.specs.Prelude.{slice_index}
use Rattle.std.specs.List.{AllByRecursion}
use Rattle.std.specs.Int.{w64, from_le_bytes}
use Rattle.std.proofs.lemmas.Nat.{from_le_bytes-to_le_bytes_8}
use Rattle.std.proofs.lemmas.List.{append_assoc, length-append, length-take}
use Rattle.plain_file.specs.declared.pieces.Piece.{Piece}
use Rattle.unit_format.specs.declared.finding.Region.{Region}
use Rattle.unit_format.specs.declared.units.TheConstants.{REGION_SIZE}
use Rattle.unit_format.specs.Regions.{BeginsUnit, IsBadRegion, IsOver, IsRegion, places_of}
use Rattle.unit_format.specs.Units.{SmallFile, IsSmallFile, unit_size, unit_spelling, units_spelling}
use Rattle.pack_files.specs.Scanning.{units_of}
use Rattle.pack_laws.specs.Scanned.{TellsUnits, region_bytes, region_start, region_stop}
use Rattle.packing_laws.proofs.SmallFiles.Places.{unit_long, unit_some}

-- ---- one unit

fronts_alike : (xs ys a b : List ℕ) → length xs ≡ length ys → xs ++ a ≡ ys ++ b → (xs ≡ ys) × (a ≡ b)
fronts_alike [] [] a b long is = (refl, is)
fronts_alike [] (y ∷ ys) a b long is = absurd (omega (arith, long))
fronts_alike (x ∷ xs) [] a b long is = absurd (omega (arith, long))
fronts_alike (x ∷ xs) (y ∷ ys) a b long is =
    let first : x ≡ y = cc in
    let rest : xs ++ a ≡ ys ++ b = cc in
    let more = fronts_alike xs ys a b (omega (arith, long)) rest in
    ((λ i. first i ∷ more.0 i), more.1)

-- the lengths that bytes begin with
name_read : (f : SmallFile) (rest : List ℕ) → IsSmallFile f → from_le_bytes w64 (take 8 (unit_spelling f ++ rest)) ≡ length f.name
name_read f rest small = from_le_bytes-to_le_bytes_8 (length f.name) (omega (arith, small.named.short))

content_read : (f : SmallFile) (rest : List ℕ) → IsSmallFile f → from_le_bytes w64 (take 8 (drop 8 (unit_spelling f ++ rest))) ≡ length f.content
content_read f rest small = from_le_bytes-to_le_bytes_8 (length f.content) (omega (arith, small.small))

body : (f : SmallFile) (rest : List ℕ) → drop 16 (unit_spelling f ++ rest) ≡ (f.name ++ f.content) ++ rest
body f rest = refl

pub one_unit : (f g : SmallFile) (a b : List ℕ) → IsSmallFile f → IsSmallFile g → unit_spelling f ++ a ≡ unit_spelling g ++ b → (f ≡ g) × (a ≡ b)
one_unit f g a b of_f of_g is =
    let names : length f.name ≡ length g.name = sym (name_read f a of_f) ∙ ap (λ (bs : List ℕ). from_le_bytes w64 (take 8 bs)) is ∙ name_read g b of_g in
    let contents : length f.content ≡ length g.content = sym (content_read f a of_f) ∙ ap (λ (bs : List ℕ). from_le_bytes w64 (take 8 (drop 8 bs))) is ∙ content_read g b of_g in
    let bodies : (f.name ++ f.content) ++ a ≡ (g.name ++ g.content) ++ b = sym (body f a) ∙ ap (λ (bs : List ℕ). drop 16 bs) is ∙ body g b in
    let whole = fronts_alike (f.name ++ f.content) (g.name ++ g.content) a b (omega (arith, names, contents, length-append f.name f.content, length-append g.name g.content)) bodies in
    let parts = fronts_alike f.name g.name f.content g.content names whole.0 in
    ((λ i. record { name = parts.0 i; content = parts.1 i }), whole.1)

-- ---- a region ends, or a unit begins

first_byte : (f : SmallFile) (rest : List ℕ) → IsSmallFile f → slice_index (unit_spelling f ++ rest) 0 ≡ length f.name
first_byte f rest small = omega (arith, small.named.short)

goes_on : (left : ℕ) (f : SmallFile) (rest : List ℕ) → IsSmallFile f → length (unit_spelling f ++ rest) ≤ left → IsOver left (unit_spelling f ++ rest) → ⊥
goes_on left f rest small within (inl few) = omega (arith, few, within, length-append (unit_spelling f) rest, unit_long f, unit_some f small)
goes_on left f rest small within (inr none) = omega (arith, none.0, first_byte f rest small, small.named.not_empty)

-- ---- all of them

pub one_list : (left : ℕ) (files others : List SmallFile) (bytes rest more : List ℕ) → AllByRecursion IsSmallFile files → AllByRecursion IsSmallFile others → bytes ≡ units_spelling files ++ rest → bytes ≡ units_spelling others ++ more → length bytes ≤ left
    → IsOver (left - length (units_spelling files)) rest → IsOver (left - length (units_spelling others)) more → files ≡ others
one_list left [] [] bytes rest more all these is so within over ends = refl
one_list left [] (g ∷ others) bytes rest more all these is so within over ends =
    let same : rest ≡ unit_spelling g ++ (units_spelling others ++ more) = sym is ∙ so ∙ append_assoc (unit_spelling g) (units_spelling others) more in
    let none : left - 0 ≡ left = omega arith in
    absurd (goes_on left g (units_spelling others ++ more) these.0 (omega (arith, within, ap (λ (bs : List ℕ). length bs) (is ∙ same))) (subst (λ n. IsOver n (unit_spelling g ++ (units_spelling others ++ more))) none (subst (λ bs. IsOver (left - 0) bs) same over)))
one_list left (f ∷ files) [] bytes rest more all these is so within over ends =
    let same : more ≡ unit_spelling f ++ (units_spelling files ++ rest) = sym so ∙ is ∙ append_assoc (unit_spelling f) (units_spelling files) rest in
    let none : left - 0 ≡ left = omega arith in
    absurd (goes_on left f (units_spelling files ++ rest) all.0 (omega (arith, within, ap (λ (bs : List ℕ). length bs) (so ∙ same))) (subst (λ n. IsOver n (unit_spelling f ++ (units_spelling files ++ rest))) none (subst (λ bs. IsOver (left - 0) bs) same ends)))
one_list left (f ∷ files) (g ∷ others) bytes rest more all these is so within over ends =
    let one : bytes ≡ unit_spelling f ++ (units_spelling files ++ rest) = is ∙ append_assoc (unit_spelling f) (units_spelling files) rest in
    let other : bytes ≡ unit_spelling g ++ (units_spelling others ++ more) = so ∙ append_assoc (unit_spelling g) (units_spelling others) more in
    let u = one_unit f g (units_spelling files ++ rest) (units_spelling others ++ more) all.0 these.0 (sym one ∙ other) in
    let long : length bytes ≡ unit_size f + length (units_spelling files ++ rest) = ap (λ (bs : List ℕ). length bs) one ∙ length-append (unit_spelling f) (units_spelling files ++ rest) ∙ ap (λ n. n + length (units_spelling files ++ rest)) (unit_long f) in
    let first : length (unit_spelling f ++ units_spelling files) ≡ length (unit_spelling f) + length (units_spelling files) = length-append (unit_spelling f) (units_spelling files) in
    let second : length (unit_spelling g ++ units_spelling others) ≡ length (unit_spelling g) + length (units_spelling others) = length-append (unit_spelling g) (units_spelling others) in
    let sizes : unit_size f ≡ unit_size g = ap (λ (x : SmallFile). unit_size x) u.0 in
    let here : left - length (units_spelling (f ∷ files)) ≡ left - unit_size f - length (units_spelling files) = omega (arith, first, unit_long f) in
    let there : left - length (units_spelling (g ∷ others)) ≡ left - unit_size f - length (units_spelling others) = omega (arith, second, unit_long g, sizes) in
    let tail : files ≡ others = one_list (left - unit_size f) files others (units_spelling files ++ rest) rest more all.1 these.1 refl u.1 (omega (arith, within, long))
    (subst (λ n. IsOver n rest) here over) (subst (λ n. IsOver n more) there ends) in
    λ i. u.0 i ∷ tail i

-- and no place of it is bad
pub not_both : (left : ℕ) (files others : List SmallFile) (bytes rest more : List ℕ) → AllByRecursion IsSmallFile files → AllByRecursion IsSmallFile others → bytes ≡ units_spelling files ++ rest → bytes ≡ units_spelling others ++ more → length bytes ≤ left
    → IsOver (left - length (units_spelling files)) rest → (IsOver (left - length (units_spelling others)) more → ⊥) → (BeginsUnit more → ⊥) → ⊥
not_both left [] [] bytes rest more all these is so within over going none = going (subst (λ bs. IsOver (left - 0) bs) (sym is ∙ so) over)
not_both left [] (g ∷ others) bytes rest more all these is so within over going none =
    let same : rest ≡ unit_spelling g ++ (units_spelling others ++ more) = sym is ∙ so ∙ append_assoc (unit_spelling g) (units_spelling others) more in
    let whole : left - 0 ≡ left = omega arith in
    goes_on left g (units_spelling others ++ more) these.0 (omega (arith, within, ap (λ (bs : List ℕ). length bs) (is ∙ same))) (subst (λ n. IsOver n (unit_spelling g ++ (units_spelling others ++ more))) whole (subst (λ bs. IsOver (left - 0) bs) same over))
not_both left (f ∷ files) [] bytes rest more all these is so within over going none =
    none (record { file = f; rest = units_spelling files ++ rest; small = all.0; spelled = sym so ∙ is ∙ append_assoc (unit_spelling f) (units_spelling files) rest })
not_both left (f ∷ files) (g ∷ others) bytes rest more all these is so within over going none =
    let one : bytes ≡ unit_spelling f ++ (units_spelling files ++ rest) = is ∙ append_assoc (unit_spelling f) (units_spelling files) rest in
    let other : bytes ≡ unit_spelling g ++ (units_spelling others ++ more) = so ∙ append_assoc (unit_spelling g) (units_spelling others) more in
    let u = one_unit f g (units_spelling files ++ rest) (units_spelling others ++ more) all.0 these.0 (sym one ∙ other) in
    let long : length bytes ≡ unit_size f + length (units_spelling files ++ rest) = ap (λ (bs : List ℕ). length bs) one ∙ length-append (unit_spelling f) (units_spelling files ++ rest) ∙ ap (λ n. n + length (units_spelling files ++ rest)) (unit_long f) in
    let first : length (unit_spelling f ++ units_spelling files) ≡ length (unit_spelling f) + length (units_spelling files) = length-append (unit_spelling f) (units_spelling files) in
    let second : length (unit_spelling g ++ units_spelling others) ≡ length (unit_spelling g) + length (units_spelling others) = length-append (unit_spelling g) (units_spelling others) in
    let sizes : unit_size f ≡ unit_size g = ap (λ (x : SmallFile). unit_size x) u.0 in
    let here : left - length (units_spelling (f ∷ files)) ≡ left - unit_size f - length (units_spelling files) = omega (arith, first, unit_long f) in
    let there : left - unit_size f - length (units_spelling others) ≡ left - length (units_spelling (g ∷ others)) = omega (arith, second, unit_long g, sizes) in
    not_both (left - unit_size f) files others (units_spelling files ++ rest) rest more all.1 these.1 refl u.1 (omega (arith, within, long))
    (subst (λ n. IsOver n rest) here over) (λ ends. going (subst (λ n. IsOver n more) there ends)) none

part_short : (n : ℕ) (bytes : List ℕ) → length (take n bytes) ≤ n
part_short n bytes = omega (arith, length-take n bytes)

left_of : (start size end long : ℕ) → end ≡ start + long → start + size - end ≡ size - long
left_of start size end long is = omega (arith, is)

-- so the units of a region are told in one way
pub told_alike : (pieces : List Piece) (region : ℕ) (file : List ℕ) (r s : Region) → TellsUnits pieces region file r → TellsUnits pieces region file s → r.units ≡ s.units
told_alike pieces region file r s one other =
    let start : ℕ = region_start region in
    let bytes : List ℕ = region_bytes region file in
    let within : length bytes ≤ REGION_SIZE = part_short REGION_SIZE (drop start file) in
    let left_one : start + REGION_SIZE - r.end ≡ REGION_SIZE - length (units_spelling one.files) = left_of start REGION_SIZE r.end (length (units_spelling one.files)) one.has.ends in
    let left_other : start + REGION_SIZE - s.end ≡ REGION_SIZE - length (units_spelling other.files) = left_of start REGION_SIZE s.end (length (units_spelling other.files)) other.has.ends in
    let files : one.files ≡ other.files = one_list REGION_SIZE one.files other.files bytes one.has.rest other.has.rest one.has.small other.has.small one.has.spelled other.has.spelled within
    (subst (λ n. IsOver n one.has.rest) left_one one.has.over) (subst (λ n. IsOver n other.has.rest) left_other other.has.over) in
    one.units ∙ ap (λ fs. units_of pieces (places_of start fs)) files ∙ sym other.units

pub region_good : (region : ℕ) (file : List ℕ) (files : List SmallFile) (end place : ℕ) → IsRegion (region_start region) (region_stop region) (region_bytes region file) files end → IsBadRegion (region_start region) (region_stop region) (region_bytes region file) place → ⊥
region_good region file files end place has wrong =
    let start : ℕ = region_start region in
    let within : length (region_bytes region file) ≤ REGION_SIZE = part_short REGION_SIZE (drop start file) in
    let left_one : start + REGION_SIZE - end ≡ REGION_SIZE - length (units_spelling files) = left_of start REGION_SIZE end (length (units_spelling files)) has.ends in
    let left_other : start + REGION_SIZE - place ≡ REGION_SIZE - length (units_spelling wrong.files) = left_of start REGION_SIZE place (length (units_spelling wrong.files)) wrong.is in
    not_both REGION_SIZE files wrong.files (region_bytes region file) has.rest wrong.rest has.small wrong.small has.spelled wrong.spelled within
    (subst (λ n. IsOver n has.rest) left_one has.over) (λ over. wrong.goes_on (subst (λ n. IsOver n wrong.rest) (sym left_other) over)) wrong.none
