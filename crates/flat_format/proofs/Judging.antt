-- One place for bad bytes, and none for good ones.
use Rattle.std.proofs.Common.{◌≡◌, ℕ, ◌+◌, ◌*◌, ◌<◌, List, length, take, drop, refl, sym, ap, ◌∙◌, subst, arith, inl, inr, ◌⊎◌, Result, Ok, Err, IfOk, IfErr}
use Rattle.std.proofs.lemmas.Bool.{cases_lt}
use Rattle.std.proofs.lemmas.List.{take-take}
use Rattle.plfs_types.specs.declared.entries.Cover.{Cover}
use Rattle.plain_file.specs.declared.pieces.Piece.{Piece}
use Rattle.index_entry.specs.Spelling.{number_in}
use Rattle.index_entry.specs.Records.{IsBytes}
use Rattle.index_entry.proofs.Facts.{length-records_in}
use Rattle.flat_format.specs.declared.flat.Flat.{Flat}
use Rattle.flat_format.specs.declared.flat.FlatTrouble.{FlatTrouble}
use Rattle.flat_format.specs.declared.flat.FlatTrouble.TheVariants.{NoMemory, Bad}
use Rattle.flat_format.specs.Bad.{HasHead, HasLength, BreaksAt, BreaksFirst, IsBadAt, IsFlatTrouble}
use Rattle.flat_format.specs.Covers.{AreCovers}
use Rattle.flat_format.specs.Judged.{IsRecordTrouble, IsJudgedTrouble}
use Rattle.flat_format.specs.Reading.{cover_in, covers_in, pieces_in, flat_in}
use Rattle.flat_format.specs.Spelling.{SpellsFlat}
use Rattle.flat_format.specs.Valid.{AreFlatPieces, IsFlat}
use Rattle.flat_format.proofs.Ordered.{first_covers, first_pieces}
use Rattle.flat_format.proofs.Spelled.{head_spelled, length_spelled, is_in, spelled_in}

-- ---- troubles of records

covers_long : (bytes : List ℕ) → length (covers_in (number_in 8 bytes) bytes) ≡ number_in 8 bytes
covers_long bytes = length-records_in cover_in 32 (number_in 8 bytes) (drop 24 bytes)

pub judged_covers : (bytes : List ℕ) (count : ℕ) (trouble : FlatTrouble) → HasHead bytes → HasLength bytes → count ≡ number_in 8 bytes
    → IsRecordTrouble AreCovers (covers_in count bytes) 24 32 trouble → IsJudgedTrouble bytes trouble
unfolding flat_in
judged_covers bytes count NoMemory head len is bad = tt
judged_covers bytes count (Bad place) head len is bad =
    let P : ℕ → Type 0 = λ n. BreaksAt AreCovers (covers_in n bytes) bad.0 in
    inr (inr (head, len, inl (bad.0, subst P is bad.1, bad.2)))

pub judged_pieces : (bytes : List ℕ) (covers : List Cover) (n count : ℕ) (trouble : FlatTrouble) → HasHead bytes → HasLength bytes → n ≡ number_in 8 bytes → count ≡ number_in 16 bytes
    → covers ≡ covers_in n bytes → AreCovers covers
    → IsRecordTrouble (AreFlatPieces covers) (pieces_in (24 + 32 * n) count bytes) (24 + 32 * n) 40 trouble → IsJudgedTrouble bytes trouble
unfolding flat_in
judged_pieces bytes covers n count NoMemory head len is counts same are bad = tt
judged_pieces bytes covers n count (Bad place) head len is counts same are bad =
    let at_n : covers ≡ covers_in (number_in 8 bytes) bytes = same ∙ ap (λ (m : ℕ). covers_in m bytes) is in
    let P : List Cover → Type 0 = λ cs. AreCovers cs in
    let Q : ℕ → Type 0 = λ m. BreaksAt (AreFlatPieces covers) (pieces_in (24 + 32 * m) count bytes) bad.0 in
    let R : ℕ → Type 0 = λ k. BreaksAt (AreFlatPieces covers) (pieces_in (24 + 32 * number_in 8 bytes) k bytes) bad.0 in
    let S : List Cover → Type 0 = λ cs. BreaksAt (AreFlatPieces cs) (pieces_in (24 + 32 * number_in 8 bytes) (number_in 16 bytes) bytes) bad.0 in
    let many : length (covers_in (number_in 8 bytes) bytes) ≡ number_in 8 bytes = covers_long bytes in
    inr (inr (head, len, inr (bad.0, subst P at_n are, subst S at_n (subst R counts (subst Q is bad.1)), omega (arith, bad.2, many, is))))

pub judged_value : (bytes : List ℕ) (covers : List Cover) (pieces : List Piece) (n count : ℕ) → n ≡ number_in 8 bytes → count ≡ number_in 16 bytes
    → covers ≡ covers_in n bytes → pieces ≡ pieces_in (24 + 32 * n) count bytes
    → record { covers = covers; pieces = pieces } ≡ flat_in bytes
unfolding flat_in
judged_value bytes covers pieces n count is counts a b =
    let one : covers ≡ covers_in (number_in 8 bytes) bytes = a ∙ ap (λ (m : ℕ). covers_in m bytes) is in
    let two : pieces ≡ pieces_in (24 + 32 * number_in 8 bytes) (number_in 16 bytes) bytes =
    b ∙ ap (λ (m : ℕ). pieces_in (24 + 32 * m) count bytes) is ∙ ap (λ (k : ℕ). pieces_in (24 + 32 * number_in 8 bytes) k bytes) counts in
    λ i. record { covers = one i; pieces = two i }

pub trouble : (bytes : List ℕ) (t : FlatTrouble) → IsBytes bytes → IsJudgedTrouble bytes t → IsFlatTrouble bytes t
trouble bytes NoMemory are bad = tt
trouble bytes (Bad place) are (inl wrong) = inl wrong
trouble bytes (Bad place) are (inr (inl wrong)) = inr (inl wrong)
trouble bytes (Bad place) are (inr (inr breaks)) = inr (inr (flat_in bytes, spelled_in bytes are breaks.0 breaks.1, breaks.2))

-- ---- one place

-- of lists of which the first items are valid too
not_both : {A : Type 0} (V : List A → Type 0) → ((n : ℕ) (xs : List A) → V xs → V (take n xs)) → (xs : List A) (i j : ℕ) → BreaksAt V xs i → BreaksAt V xs j → i < j → ⊥
not_both V firsts xs i j a b lt =
    a.broken (subst V (take-take (i + 1) j xs (omega arith)) (firsts (i + 1) (take j xs) b.before))

one_break : {A : Type 0} (V : List A → Type 0) → ((n : ℕ) (xs : List A) → V xs → V (take n xs)) → (xs : List A) (i j : ℕ) → BreaksAt V xs i → BreaksAt V xs j → i ≡ j
one_break V firsts xs i j a b = elim (cases_lt i j) [
  | inl lt ↦ absurd (not_both V firsts xs i j a b lt)
  | inr ge ↦ elim (cases_lt j i) [
    | inl lt ↦ absurd (not_both V firsts xs j i b a lt)
    | inr le ↦ omega arith
  ]
]

valid_breaks_none : (flat : Flat) (place : ℕ) → IsFlat flat → BreaksFirst flat place → ⊥
valid_breaks_none flat place valid (inl bad) = bad.1.broken (first_covers (bad.0 + 1) flat.covers valid.covers)
valid_breaks_none flat place valid (inr bad) = bad.2.broken (first_pieces flat.covers (bad.0 + 1) flat.pieces valid.pieces)

one_first : (flat : Flat) (p q : ℕ) → BreaksFirst flat p → BreaksFirst flat q → p ≡ q
one_first flat p q (inl a) (inl b) = omega (arith, a.2, b.2, one_break AreCovers first_covers flat.covers a.0 b.0 a.1 b.1)
one_first flat p q (inl a) (inr b) = absurd (a.1.broken (first_covers (a.0 + 1) flat.covers b.1))
one_first flat p q (inr a) (inl b) = absurd (b.1.broken (first_covers (b.0 + 1) flat.covers a.1))
one_first flat p q (inr a) (inr b) = omega (arith, a.3, b.3, one_break (AreFlatPieces flat.covers) (first_pieces flat.covers) flat.pieces a.0 b.0 a.2 b.2)

pub valid_or_bad : (bytes : List ℕ) (flat : Flat) (place : ℕ) → IsFlat flat → SpellsFlat bytes flat → IsBadAt bytes place → ⊥
valid_or_bad bytes flat place valid spells (inl a) = a.0 (head_spelled bytes flat spells)
valid_or_bad bytes flat place valid spells (inr (inl a)) = a.1 (length_spelled bytes flat spells)
valid_or_bad bytes flat place valid spells (inr (inr a)) =
    let same : flat ≡ a.0 = is_in bytes flat spells ∙ sym (is_in bytes a.0 a.1) in
    valid_breaks_none a.0 place (subst IsFlat same valid) a.2

pub one_place : (bytes : List ℕ) (p q : ℕ) → IsBadAt bytes p → IsBadAt bytes q → p ≡ q
one_place bytes p q (inl a) (inl b) = omega (arith, a.1, b.1)
one_place bytes p q (inl a) (inr (inl b)) = absurd (a.0 b.0)
one_place bytes p q (inl a) (inr (inr b)) = absurd (a.0 (head_spelled bytes b.0 b.1))
one_place bytes p q (inr (inl a)) (inl b) = absurd (b.0 a.0)
one_place bytes p q (inr (inl a)) (inr (inl b)) = omega (arith, a.2, b.2)
one_place bytes p q (inr (inl a)) (inr (inr b)) = absurd (a.1 (length_spelled bytes b.0 b.1))
one_place bytes p q (inr (inr a)) (inl b) = absurd (b.0 (head_spelled bytes a.0 a.1))
one_place bytes p q (inr (inr a)) (inr (inl b)) = absurd (b.1 (length_spelled bytes a.0 a.1))
one_place bytes p q (inr (inr a)) (inr (inr b)) =
    let same : b.0 ≡ a.0 = is_in bytes b.0 b.1 ∙ sym (is_in bytes a.0 a.1) in
    let P : Flat → Type 0 = λ flat. BreaksFirst flat q in
    one_first a.0 p q a.2 (subst P same b.2)

-- ---- what is read

pub found : (bytes : List ℕ) (answer : Result Flat FlatTrouble) → IsBytes bytes → IfOk answer (λ flat. HasHead bytes × HasLength bytes) → IfOk answer (λ flat. flat ≡ flat_in bytes)
    → IfOk answer IsFlat → IfOk answer (λ flat. IsFlat flat × SpellsFlat bytes flat)
found bytes (Ok flat) are whole is valid =
    let P : Flat → Type 0 = λ f. SpellsFlat bytes f in
    (valid, subst P (sym is) (spelled_in bytes are whole.0 whole.1))
found bytes (Err t) are whole is valid = tt

pub told : (bytes : List ℕ) (answer : Result Flat FlatTrouble) → IsBytes bytes → IfErr answer (IsJudgedTrouble bytes) → IfErr answer (IsFlatTrouble bytes)
told bytes (Ok flat) are bad = tt
told bytes (Err t) are bad = trouble bytes t are bad

pub only : (bytes : List ℕ) (answer : Result Flat FlatTrouble) → IfOk answer (λ flat. flat ≡ flat_in bytes) → IfErr answer (IsFlatTrouble bytes)
    → (flat : Flat) → IsFlat flat → SpellsFlat bytes flat → (answer ≡ Ok flat) ⊎ (answer ≡ Err NoMemory)
only bytes (Ok read) is bad flat valid spells = let same : read ≡ flat = is ∙ sym (is_in bytes flat spells) in inl cc
only bytes (Err NoMemory) is bad flat valid spells = inr refl
only bytes (Err (Bad place)) is bad flat valid spells = absurd (valid_or_bad bytes flat place valid spells bad)

pub exact : (bytes : List ℕ) (answer : Result Flat FlatTrouble) → IfOk answer (λ flat. IsFlat flat × SpellsFlat bytes flat) → IfErr answer (IsFlatTrouble bytes)
    → (place : ℕ) → IsBadAt bytes place → (answer ≡ Err (Bad place)) ⊎ (answer ≡ Err NoMemory)
exact bytes (Ok read) is bad place is_bad = absurd (valid_or_bad bytes read place is.0 is.1 is_bad)
exact bytes (Err NoMemory) is bad place is_bad = inr refl
exact bytes (Err (Bad at)) is bad place is_bad = let same : at ≡ place = one_place bytes at place bad is_bad in inl cc
