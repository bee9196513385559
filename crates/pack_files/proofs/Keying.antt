-- Units that are given their keys one after the other.
use Rattle.std.proofs.Common.{◌≡◌, ℕ, zero, suc, ◌+◌, ◌<◌, ◌≤◌, List, [], ◌∷◌, length, get_or, refl, ap, ◌∙◌, arith}
use Rattle.std.specs.Prelude.{slice_set}
use Rattle.plain_file.specs.declared.pieces.Piece.{Piece}
use Rattle.unit_format.specs.declared.finding.Unit.{Unit as Found}
use Rattle.pack_files.specs.Scanning.{unit_of, units_of}

-- the first so many have their keys
abbrev pub keyed_to : List Piece → ℕ → List Found → List Found
keyed_to pieces zero units = units
keyed_to pieces (suc n) [] = []
keyed_to pieces (suc n) (u ∷ units) = unit_of pieces u ∷ keyed_to pieces n units

pub all_keyed : (pieces : List Piece) (n : ℕ) (units : List Found) → length units ≤ n → keyed_to pieces n units ≡ units_of pieces units
all_keyed pieces zero [] all = refl
all_keyed pieces (suc n) [] all = refl
all_keyed pieces zero (u ∷ units) all = absurd (omega arith)
all_keyed pieces (suc n) (u ∷ units) all = ap (λ (us : List Found). unit_of pieces u ∷ us) (all_keyed pieces n units (omega arith))

set_keyed : (pieces : List Piece) (i : ℕ) (units : List Found) (d : Found) → i < length units
    → slice_set (keyed_to pieces i units) i (unit_of pieces (get_or (keyed_to pieces i units) i d)) ≡ keyed_to pieces (suc i) units
set_keyed pieces i [] d within = absurd (omega arith)
set_keyed pieces zero (u ∷ units) d within = refl
set_keyed pieces (suc i) (u ∷ units) d within = ap (λ (us : List Found). unit_of pieces u ∷ us) (set_keyed pieces i units d (omega arith))

-- one more has its key
pub next_keyed : (pieces : List Piece) (i : ℕ) (units now : List Found) (u made : Found) → now ≡ keyed_to pieces i units → i < length units
    → u ≡ get_or now i u → made ≡ unit_of pieces u → slice_set now i made ≡ keyed_to pieces (i + 1) units
next_keyed pieces i units now u made known within is made_so =
    let one : suc i ≡ i + 1 = omega arith in
    ap (λ (v : Found). slice_set now i v) (made_so ∙ ap (unit_of pieces) is)
    ∙ ap (λ (us : List Found). slice_set us i (unit_of pieces (get_or us i u))) known
    ∙ set_keyed pieces i units u within
    ∙ ap (λ (n : ℕ). keyed_to pieces n units) one
