-- Units one behind the other: where each stands, and that none overlaps another.
use Rattle.std.proofs.Common.{◌≡◌, ℕ, zero, suc, ◌+◌, ◌<◌, ◌≤◌, inl, inr, List, [], ◌∷◌, ◌++◌, length, sym, ap, ◌∙◌, subst, arith}
use Rattle.std.specs.List.{All, AllByRecursion}
use Rattle.std.specs.Int.{w64, to_le_bytes}
use Rattle.std.specs.Prelude.{IsTrue}
use Rattle.std.proofs.lemmas.Bool.{cases_lt}
use Rattle.std.proofs.lemmas.Bool.Decides.{nat_tests}
use Rattle.std.proofs.lemmas.List.{length-append}
use Rattle.std.proofs.lemmas.List.Elements.{recursion_from_All}
use Rattle.index_entry.specs.Records.{IsBytes}
use Rattle.plfs_types.specs.Names.{is_name_byte}
use Rattle.unit_format.specs.Units.{SmallFile, IsSmallFile, unit_size, unit_spelling, units_spelling}
use Rattle.packing_laws.specs.OnlyUnits.{HasUnitAt, IsByteFile}

pub unit_long : (f : SmallFile) → length (unit_spelling f) ≡ unit_size f
unit_long f =
    let all : length (unit_spelling f) ≡ 16 + length (f.name ++ f.content) = omega arith in
    omega (arith, all, length-append f.name f.content)

pub units_long : (f : SmallFile) (files : List SmallFile) → length (units_spelling (f ∷ files)) ≡ unit_size f + length (units_spelling files)
units_long f files = omega (arith, length-append (unit_spelling f) (units_spelling files), unit_long f)

-- ---- places

pub stands_from : (from : ℕ) (files : List SmallFile) (place : ℕ) (f : SmallFile) → HasUnitAt from files place f → from ≤ place
stands_from from [] place f has = absurd has
stands_from from (g ∷ files) place f (inl here) = omega (arith, here.0)
stands_from from (g ∷ files) place f (inr later) = omega (arith, stands_from (from + unit_size g) files place f later)

pub stands_until : (from : ℕ) (files : List SmallFile) (place : ℕ) (f : SmallFile) → HasUnitAt from files place f → place + unit_size f ≤ from + length (units_spelling files)
stands_until from [] place f has = absurd has
stands_until from (g ∷ files) place f (inl here) = let same : unit_size f ≡ unit_size g = ap (λ (x : SmallFile). unit_size x) here.1 in omega (arith, here.0, same, units_long g files)
stands_until from (g ∷ files) place f (inr later) = omega (arith, stands_until (from + unit_size g) files place f later, units_long g files)

-- a byte lies in no two of them
pub stand_apart : (from : ℕ) (files : List SmallFile) (p q : ℕ) (f g : SmallFile) (x : ℕ) → HasUnitAt from files p f → HasUnitAt from files q g → p ≤ x → x < p + unit_size f → q ≤ x → x < q + unit_size g → (p ≡ q) × (f ≡ g)
stand_apart from [] p q f g x a b pf pu qf qu = absurd a
stand_apart from (h ∷ files) p q f g x (inl a) (inl b) pf pu qf qu = (a.0 ∙ sym b.0, a.1 ∙ sym b.1)
stand_apart from (h ∷ files) p q f g x (inl a) (inr b) pf pu qf qu =
    let same : unit_size f ≡ unit_size h = ap (λ (y : SmallFile). unit_size y) a.1 in
    absurd (omega (arith, a.0, same, stands_from (from + unit_size h) files q g b, pu, qf))
stand_apart from (h ∷ files) p q f g x (inr a) (inl b) pf pu qf qu =
    let same : unit_size g ≡ unit_size h = ap (λ (y : SmallFile). unit_size y) b.1 in
    absurd (omega (arith, b.0, same, stands_from (from + unit_size h) files p f a, qu, pf))
stand_apart from (h ∷ files) p q f g x (inr a) (inr b) pf pu qf qu = stand_apart (from + unit_size h) files p q f g x a b pf pu qf qu

pub its_file : (from : ℕ) (files : List SmallFile) (place : ℕ) (f : SmallFile) → AllByRecursion IsByteFile files → HasUnitAt from files place f → IsByteFile f
its_file from [] place f all has = absurd has
its_file from (g ∷ files) place f all (inl here) = subst (λ (x : SmallFile). IsByteFile x) (sym here.1) all.0
its_file from (g ∷ files) place f all (inr later) = its_file (from + unit_size g) files place f all.1 later

pub unit_some : (f : SmallFile) → IsSmallFile f → 17 ≤ unit_size f
unit_some f small = omega (arith, small.named.not_empty)

-- ---- bytes

pub bytes_both : (a b : List ℕ) → IsBytes a → IsBytes b → IsBytes (a ++ b)
bytes_both [] b is_a is_b i = is_b i
bytes_both (x ∷ a) b is_a is_b zero = is_a 0
bytes_both (x ∷ a) b is_a is_b (suc i) = bytes_both a b (λ j. is_a (suc j)) is_b i

name_byte : (b : ℕ) → IsTrue (is_name_byte b) → b < 256
name_byte b is = elim (cases_lt b 256) [
  | inl low ↦ low
  | inr high ↦ absurd (grind (arith, nat_tests))
]

each_byte : (name : List ℕ) → AllByRecursion (λ b. IsTrue (is_name_byte b)) name → IsBytes name
each_byte [] all i = omega arith
each_byte (b ∷ name) all zero = name_byte b all.0
each_byte (b ∷ name) all (suc i) = each_byte name all.1 i

name_bytes : (name : List ℕ) → All (λ b. IsTrue (is_name_byte b)) name → IsBytes name
name_bytes name all = each_byte name (recursion_from_All (λ b. IsTrue (is_name_byte b)) name all)

number_bytes : (n : ℕ) → IsBytes (to_le_bytes w64 n)
number_bytes n zero = omega arith
number_bytes n (suc zero) = omega arith
number_bytes n (suc (suc zero)) = omega arith
number_bytes n (suc (suc (suc zero))) = omega arith
number_bytes n (suc (suc (suc (suc zero)))) = omega arith
number_bytes n (suc (suc (suc (suc (suc zero))))) = omega arith
number_bytes n (suc (suc (suc (suc (suc (suc zero)))))) = omega arith
number_bytes n (suc (suc (suc (suc (suc (suc (suc zero))))))) = omega arith
number_bytes n (suc (suc (suc (suc (suc (suc (suc (suc i)))))))) = omega arith

pub unit_bytes : (f : SmallFile) → IsByteFile f → IsBytes (unit_spelling f)
unit_bytes f is =
    bytes_both (to_le_bytes w64 (length f.name)) (to_le_bytes w64 (length f.content) ++ f.name ++ f.content) (number_bytes (length f.name))
    (bytes_both (to_le_bytes w64 (length f.content)) (f.name ++ f.content) (number_bytes (length f.content)) (bytes_both f.name f.content (name_bytes f.name is.small.named.bytes) is.bytes))
