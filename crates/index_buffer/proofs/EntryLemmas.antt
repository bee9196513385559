-- What bytes are as entries: none, one more, and how many.
use Rattle.std.proofs.Common.{◌≡◌, ℕ, zero, suc, ◌+◌, ◌*◌, ◌/◌, ◌≤◌, List, [], ◌∷◌, ◌++◌, length, take, drop, refl, ap, ◌∙◌, arith, length-append, length-drop}
use Rattle.std.specs.Int.{w64, from_le_bytes}
use Rattle.std.proofs.lemmas.List.{take-append-le, drop-append-le}
use Rattle.plfs_types.specs.declared.entries.Entry.{Entry}
use Rattle.index_entry.specs.Records.{records_in}
use Rattle.index_entry.specs.Spelling.{spelling, number_in, entry_in, FitsPlaces}
use Rattle.index_entry.proofs.Facts.{length-spelling, length-records_in, read_again}
use Rattle.index_buffer.specs.Held.{buffered}

-- a number that is there is the same whatever stands behind
number_in-front : (place : ℕ) (bytes rest : List ℕ) → place + 8 ≤ length bytes → number_in place (bytes ++ rest) ≡ number_in place bytes
number_in-front place bytes rest there =
    let before : place ≤ length bytes = omega arith in
    let left : 8 ≤ length (drop place bytes) = omega (arith, length-drop place bytes) in
    ap (λ (x : List ℕ). from_le_bytes w64 (take 8 x)) (drop-append-le place bytes rest before)
    ∙ ap (from_le_bytes w64) (take-append-le 8 (drop place bytes) rest left)

none_left : (bytes : List ℕ) → length bytes ≡ 0 → bytes ≡ []
none_left [] none = refl
none_left (b ∷ bytes) none = absurd (omega arith)

-- the first entry is the same whatever stands behind its bytes
entry_in-front : (bytes rest : List ℕ) → 40 ≤ length bytes → entry_in (bytes ++ rest) ≡ entry_in bytes
unfolding entry_in
entry_in-front bytes rest there = λ i. record {
  at = number_in-front 0 bytes rest (omega arith) i;
  len = number_in-front 8 bytes rest (omega arith) i;
  physical = number_in-front 16 bytes rest (omega arith) i;
  stamp = number_in-front 24 bytes rest (omega arith) i;
  writer = number_in-front 32 bytes rest (omega arith) i;
}

entries-push : (count : ℕ) (bytes : List ℕ) (e : Entry) → length bytes ≡ 40 * count → FitsPlaces e
    → records_in entry_in 40 (suc count) (bytes ++ spelling e) ≡ records_in entry_in 40 count bytes ++ e ∷ []
entries-push zero bytes e len fits =
    ap (λ (x : List ℕ). entry_in (x ++ spelling e) ∷ []) (none_left bytes (omega arith))
    ∙ ap (λ (x : Entry). x ∷ []) (read_again (spelling e) e (record { places = fits; spelled = refl }))
entries-push (suc count) bytes e len fits =
    let there : 40 ≤ length bytes = omega arith in
    let left : length (drop 40 bytes) ≡ 40 * count = omega (arith, length-drop 40 bytes) in
    ap (λ (x : Entry). x ∷ records_in entry_in 40 (suc count) (drop 40 (bytes ++ spelling e))) (entry_in-front bytes (spelling e) there)
    ∙ ap (λ (x : List ℕ). entry_in bytes ∷ records_in entry_in 40 (suc count) x) (drop-append-le 40 bytes (spelling e) there)
    ∙ ap (λ (es : List Entry). entry_in bytes ∷ es) (entries-push count (drop 40 bytes) e left fits)

pub length-buffered : (bytes : List ℕ) → length (buffered bytes) ≡ length bytes / 40
unfolding buffered
length-buffered bytes = length-records_in entry_in 40 (length bytes / 40) bytes

pub buffered-none : buffered [] ≡ []
unfolding buffered
buffered-none = refl

pub buffered-push : (bytes : List ℕ) (e : Entry) → length bytes ≡ 40 * length (buffered bytes) → FitsPlaces e
    → buffered (bytes ++ spelling e) ≡ buffered bytes ++ e ∷ []
unfolding buffered
buffered-push bytes e whole fits =
    let count : ℕ = length bytes / 40 in
    let len : length bytes ≡ 40 * count = whole ∙ ap (λ n. 40 * n) (length-records_in entry_in 40 count bytes) in
    let longer : length (bytes ++ spelling e) / 40 ≡ suc count = omega (arith, len, length-append bytes (spelling e), length-spelling e) in
    ap (λ n. records_in entry_in 40 n (bytes ++ spelling e)) longer ∙ entries-push count bytes e len fits
