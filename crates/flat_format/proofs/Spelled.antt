-- Bytes spell what they have by their counts, and nothing else.
use Rattle.std.proofs.Common.{◌≡◌, ℕ, ◌+◌, ◌*◌, ◌<◌, ◌^◌, List, [], ◌++◌, length, take, drop, refl, sym, ap, ◌∙◌, subst, arith}
use Rattle.std.specs.List.{flat_map}
use Rattle.std.specs.Int.{w64, to_le_bytes}
use Rattle.std.proofs.lemmas.Nat.{from_le_bytes-to_le_bytes_8}
use Rattle.std.proofs.lemmas.List.{length-append, length-drop, drop-drop, drop_at, append-nil, take_all}
use Rattle.std.proofs.Math.Seq.{take-add}
use Rattle.index_entry.specs.Spelling.{number_in}
use Rattle.index_entry.specs.Records.{IsBytes, records_in}
use Rattle.index_entry.proofs.Facts.{grown, number_fits, IsBytes-drop, length-records_in, length-spelled, records_again, records_back, records_fit}
use Rattle.flat_format.specs.declared.flat.Flat.{Flat}
use Rattle.flat_format.specs.Bad.{HasHead, HasLength}
use Rattle.flat_format.specs.Spelling.{letters, cover_spelling, piece_spelling, flat_spelling, SpellsFlat}
use Rattle.flat_format.specs.Reading.{cover_in, piece_in, covers_in, pieces_in, flat_in}
use Rattle.flat_format.proofs.Formats.{covers_format, pieces_format}

length-flat : (flat : Flat) → length (flat_spelling flat) ≡ 24 + 32 * length flat.covers + 40 * length flat.pieces
length-flat flat =
    let covers = flat_map cover_spelling flat.covers in
    let pieces = flat_map piece_spelling flat.pieces in
    let head : List ℕ = letters ++ to_le_bytes w64 (length flat.covers) ++ to_le_bytes w64 (length flat.pieces) in
    let long : length head ≡ 24 = refl in
    omega (arith, length-append (head ++ covers) pieces, length-append head covers, long, length-spelled covers_format flat.covers, length-spelled pieces_format flat.pieces)

covers_number : (flat : Flat) → length flat.covers < 2 ^ 64 → number_in 8 (flat_spelling flat) ≡ length flat.covers
covers_number flat fits = from_le_bytes-to_le_bytes_8 (length flat.covers) fits

pieces_number : (flat : Flat) → length flat.pieces < 2 ^ 64 → number_in 16 (flat_spelling flat) ≡ length flat.pieces
pieces_number flat fits = from_le_bytes-to_le_bytes_8 (length flat.pieces) fits

pub head_spelled : (bytes : List ℕ) (flat : Flat) → SpellsFlat bytes flat → HasHead bytes
head_spelled bytes flat spells = record {
  long = omega (arith, ap length spells.spelled, length-flat flat);
  lettered = ap (take 8) spells.spelled;
}

pub length_spelled : (bytes : List ℕ) (flat : Flat) → SpellsFlat bytes flat → HasLength bytes
length_spelled bytes flat spells =
    let covers : number_in 8 bytes ≡ length flat.covers = ap (number_in 8) spells.spelled ∙ covers_number flat spells.covers_counted in
    let pieces : number_in 16 bytes ≡ length flat.pieces = ap (number_in 16) spells.spelled ∙ pieces_number flat spells.pieces_counted in
    let len : length bytes ≡ 24 + 32 * length flat.covers + 40 * length flat.pieces = ap length spells.spelled ∙ length-flat flat in
    omega (arith, covers, pieces, len)

-- what bytes spell is what they have
pub is_in : (bytes : List ℕ) (flat : Flat) → SpellsFlat bytes flat → flat ≡ flat_in bytes
unfolding flat_in
is_in bytes flat spells =
    let a : List ℕ = flat_map cover_spelling flat.covers in
    let b : List ℕ = flat_map piece_spelling flat.pieces in
    let covers : number_in 8 bytes ≡ length flat.covers = ap (number_in 8) spells.spelled ∙ covers_number flat spells.covers_counted in
    let pieces : number_in 16 bytes ≡ length flat.pieces = ap (number_in 16) spells.spelled ∙ pieces_number flat spells.pieces_counted in
    let rest : drop 24 bytes ≡ a ++ b = ap (drop 24) spells.spelled in
    let covers_same : covers_in (number_in 8 bytes) bytes ≡ flat.covers =
    ap (λ (n : ℕ). covers_in n bytes) covers ∙ ap (records_in cover_in 32 (length flat.covers)) rest ∙ records_again covers_format flat.covers b spells.covers_fit in
    let behind : drop (24 + 32 * number_in 8 bytes) bytes ≡ b =
    ap (λ (n : ℕ). drop (24 + 32 * n) bytes) covers
    ∙ sym (drop-drop (32 * length flat.covers) 24 bytes)
    ∙ ap (drop (32 * length flat.covers)) rest
    ∙ drop_at a b (32 * length flat.covers) (length-spelled covers_format flat.covers) in
    let whole : records_in piece_in 40 (length flat.pieces) b ≡ flat.pieces =
    ap (records_in piece_in 40 (length flat.pieces)) (sym (append-nil b)) ∙ records_again pieces_format flat.pieces [] spells.pieces_fit in
    let pieces_same : pieces_in (24 + 32 * number_in 8 bytes) (number_in 16 bytes) bytes ≡ flat.pieces =
    ap (λ (n : ℕ). records_in piece_in 40 n (drop (24 + 32 * number_in 8 bytes) bytes)) pieces
    ∙ ap (records_in piece_in 40 (length flat.pieces)) behind
    ∙ whole in
    λ i. record { covers = sym covers_same i; pieces = sym pieces_same i }

-- bytes spell at most one index
pub one_flat : (bytes : List ℕ) (a b : Flat) → SpellsFlat bytes a → SpellsFlat bytes b → a ≡ b
one_flat bytes a b in_a in_b = is_in bytes a in_a ∙ sym (is_in bytes b in_b)

-- bytes that are as long as their counts say spell what they have
pub spelled_in : (bytes : List ℕ) → IsBytes bytes → HasHead bytes → HasLength bytes → SpellsFlat bytes (flat_in bytes)
unfolding flat_in
spelled_in bytes are head len =
    let c : ℕ = number_in 8 bytes in
    let p : ℕ = number_in 16 bytes in
    let begin : ℕ = 24 + 32 * c in
    let covers_long : length (covers_in c bytes) ≡ c = length-records_in cover_in 32 c (drop 24 bytes) in
    let pieces_long : length (pieces_in begin p bytes) ≡ p = length-records_in piece_in 40 p (drop begin bytes) in
    let first : letters ++ to_le_bytes w64 c ≡ take 16 bytes = grown 8 bytes letters are (omega (arith, head.long)) (sym head.lettered) in
    let both : letters ++ to_le_bytes w64 c ++ to_le_bytes w64 p ≡ take 24 bytes = grown 16 bytes (letters ++ to_le_bytes w64 c) are (omega (arith, head.long)) first in
    let covers_back : flat_map cover_spelling (covers_in c bytes) ≡ take (32 * c) (drop 24 bytes) =
    records_back covers_format c (drop 24 bytes) (IsBytes-drop 24 bytes are) (omega (arith, len, length-drop 24 bytes)) in
    let pieces_back : flat_map piece_spelling (pieces_in begin p bytes) ≡ take (40 * p) (drop begin bytes) =
    records_back pieces_format p (drop begin bytes) (IsBytes-drop begin bytes are) (omega (arith, len, length-drop begin bytes)) in
    let joined : letters ++ to_le_bytes w64 c ++ to_le_bytes w64 p ++ flat_map cover_spelling (covers_in c bytes) ≡ take begin bytes =
    ap (λ (x : List ℕ). x ++ flat_map cover_spelling (covers_in c bytes)) both
    ∙ ap (λ (x : List ℕ). take 24 bytes ++ x) covers_back ∙ sym (take-add 24 (32 * c) bytes) in
    let all : letters ++ to_le_bytes w64 c ++ to_le_bytes w64 p ++ flat_map cover_spelling (covers_in c bytes) ++ flat_map piece_spelling (pieces_in begin p bytes) ≡ bytes =
    ap (λ (x : List ℕ). x ++ flat_map piece_spelling (pieces_in begin p bytes)) joined
    ∙ ap (λ (x : List ℕ). take begin bytes ++ x) pieces_back ∙ sym (take-add begin (40 * p) bytes) ∙ take_all (begin + 40 * p) bytes (omega (arith, len)) in
    let P : ℕ → ℕ → Type 0 = λ m n. letters ++ to_le_bytes w64 m ++ to_le_bytes w64 n ++ flat_map cover_spelling (covers_in c bytes) ++ flat_map piece_spelling (pieces_in begin p bytes) ≡ bytes in
    record {
      covers_counted = omega (arith, covers_long, number_fits 8 bytes are);
      pieces_counted = omega (arith, pieces_long, number_fits 16 bytes are);
      covers_fit = records_fit covers_format c (drop 24 bytes) (IsBytes-drop 24 bytes are);
      pieces_fit = records_fit pieces_format p (drop begin bytes) (IsBytes-drop begin bytes are);
      spelled = sym (subst (λ (n : ℕ). P (length (covers_in c bytes)) n) (sym pieces_long) (subst (λ (m : ℕ). P m p) (sym covers_long) all));
    }
