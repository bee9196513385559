-- What is told of the bytes of a flattened index.
use Rattle.std.proofs.Common.{◌≡◌, ◌<◌, ◌≤◌, ◌+◌, ◌-◌, ◌*◌, ◌^◌, inl, inr, ℕ, zero, suc, nat_le, nat_lt, ◌==◌, true, false, if◌then◌else◌, List, [], ◌∷◌, length, drop, take, None, Some, Ok, Err, refl, ap, ◌∙◌, sym, arith}
use Rattle.std.specs.Int.{from_le_bytes, w64}
use Rattle.std.proofs.lemmas.List.{drop-take, length-take, take-take}
use Rattle.std.specs.Bool.{Decides}
use Rattle.std.specs.List.{AllByRecursion}
use Rattle.std.proofs.lemmas.Bool.{cond-true, cond-false}
use Rattle.std.proofs.lemmas.Bool.Decides.{Decides-and, Decides-eqb, Decides-ltb}
use Rattle.plfs_types.specs.declared.entries.Cover.{Cover}
use Rattle.plfs_types.specs.declared.limits.TheConstants.{ENTRY_SIZE, MAX_LOG, MAX_SIZE, MAX_STAMP}
use Rattle.plain_file.specs.declared.pieces.Piece.{Piece}
use Rattle.plain_file.specs.Runs.{AreRuns, Follows, Joins}
use Rattle.index_entry.specs.Spelling.{number_in}
use Rattle.flat_format.specs.declared.flat.TheConstants.{HEAD_SIZE, COVER_SIZE}
use Rattle.flat_format.specs.declared.flat.Flat.{Flat}
use Rattle.flat_format.specs.Bad.{HasHead, HasLength, BreaksFirst, IsBadAt}
use Rattle.flat_format.specs.Covers.{IsCover, Precedes, AreCovers, IsCoveredBy, AnyCovers, IsFlatPiece}
use Rattle.flat_format.specs.Reading.{flat_in}
use Rattle.flat_format.specs.Spelling.{letters, SpellsFlat}
use Rattle.flat_format.specs.Valid.{AreFlatPieces, IsFlat}
use Rattle.flat_format.proofs.Facts.{head_spelled, is_in, length_spelled}
use Rattle.index_reader.specs.Searching.{same_bytes}
use Rattle.index_reader.specs.Breaks.{first_break, unless_broken}
use Rattle.index_reader.specs.FlatRules.{is_cover, precedes, are_covers, is_piece, counts, any_counts, joins, ends_before, are_pieces, has_head, has_length, judged, flat_fault, flat_told}
use Rattle.index_reader.proofs.Indices.Deciding.{le_decides, bytes_decide, broken, not_decides, or_decides, unbroken, breaks_there}

-- ---- covers

cover_decides : (c : Cover) → Decides (is_cover c) (IsCover c)
cover_decides c =
    let d : Decides (is_cover c) ((1 ≤ c.count) × ((c.count ≤ c.bytes) × ((c.bytes ≤ MAX_LOG) × ((1 ≤ c.stamp) × (c.stamp ≤ MAX_STAMP))))) =
    Decides-and (nat_le 1 c.count) _ (le_decides 1 c.count)
    (Decides-and (nat_le c.count c.bytes) _ (le_decides c.count c.bytes)
    (Decides-and (nat_le c.bytes MAX_LOG) _ (le_decides c.bytes MAX_LOG)
    (Decides-and (nat_le 1 c.stamp) (nat_le c.stamp MAX_STAMP) (le_decides 1 c.stamp) (le_decides c.stamp MAX_STAMP)))) in (
      λ t. (let h = d.0 t in record { counted = h.0; stored = h.1.0; near = h.1.1.0; stamped = h.1.1.1.0; stamp_fits = h.1.1.1.1 }),
      λ r. d.1 (r.counted, (r.stored, (r.near, (r.stamped, r.stamp_fits)))),
    )

precedes_decides : (c : Cover) (covers : List Cover) → Decides (precedes c covers) (Precedes c covers)
precedes_decides c [] = (λ t. tt, λ r. refl)
precedes_decides c (d ∷ covers) = Decides-ltb c.writer d.writer

pub covers_decide : (covers : List Cover) → Decides (are_covers covers) (AreCovers covers)
covers_decide [] = (λ t. tt, λ r. refl)
covers_decide (c ∷ covers) =
    let d : Decides (are_covers (c ∷ covers)) (IsCover c × (Precedes c covers × AreCovers covers)) =
    Decides-and (is_cover c) _ (cover_decides c) (Decides-and (precedes c covers) (are_covers covers) (precedes_decides c covers) (covers_decide covers)) in
    (λ t. (let h = d.0 t in (h.0, h.1.0, h.1.1)), λ r. d.1 (r.0, (r.1, r.2)))

first_covers : (count : ℕ) (covers : List Cover) → AreCovers covers → AreCovers (take count covers)
first_covers zero covers are = tt
first_covers (suc count) [] are = tt
first_covers (suc zero) (c ∷ covers) are = (are.0, tt, tt)
first_covers (suc (suc count)) (c ∷ []) are = are
first_covers (suc (suc count)) (c ∷ d ∷ covers) are = (are.0, are.1, first_covers (suc count) (d ∷ covers) are.2)

-- ---- pieces

-- the piece is one, and has the form of a valid entry
pub record IsFormed (p : Piece) : Type 0 where
  pub some : 1 ≤ p.len
  pub within : p.at + p.len ≤ MAX_SIZE
  pub stamped : 1 ≤ p.stamp
  pub stamp_fits : p.stamp ≤ MAX_STAMP
  pub in_log : p.physical + p.len < 2 ^ 64

formed_decides : (p : Piece) → Decides (is_piece p) (IsFormed p)
formed_decides p =
    let d : Decides (is_piece p) ((1 ≤ p.len) × ((p.at + p.len ≤ MAX_SIZE) × ((1 ≤ p.stamp) × ((p.stamp ≤ MAX_STAMP) × (p.physical + p.len < 2 ^ 64))))) =
    Decides-and (nat_le 1 p.len) _ (le_decides 1 p.len)
    (Decides-and (nat_le (p.at + p.len) MAX_SIZE) _ (le_decides (p.at + p.len) MAX_SIZE)
    (Decides-and (nat_le 1 p.stamp) _ (le_decides 1 p.stamp)
    (Decides-and (nat_le p.stamp MAX_STAMP) (nat_lt (p.physical + p.len) (2 ^ 64)) (le_decides p.stamp MAX_STAMP) (Decides-ltb (p.physical + p.len) (2 ^ 64))))) in (
      λ t. (let h = d.0 t in record { some = h.0; within = h.1.0; stamped = h.1.1.0; stamp_fits = h.1.1.1.0; in_log = h.1.1.1.1 }),
      λ r. d.1 (r.some, (r.within, (r.stamped, (r.stamp_fits, r.in_log)))),
    )

counts_decides : (c : Cover) (p : Piece) → Decides (counts c p) (IsCoveredBy p c)
counts_decides c p =
    let d : Decides (counts c p) ((c.writer ≡ p.writer) × ((p.stamp ≤ c.stamp) × (p.physical + p.len ≤ c.bytes))) =
    Decides-and (c.writer == p.writer) _ (Decides-eqb c.writer p.writer)
    (Decides-and (nat_le p.stamp c.stamp) (nat_le (p.physical + p.len) c.bytes) (le_decides p.stamp c.stamp) (le_decides (p.physical + p.len) c.bytes)) in
    (λ t. (let h = d.0 t in record { writers = h.0; stamps = h.1.0; logged = h.1.1 }), λ r. d.1 (r.writers, (r.stamps, r.logged)))

any_decides : (covers : List Cover) (p : Piece) → Decides (any_counts covers p) (AnyCovers p covers)
any_decides [] p = (λ t. absurd (let clash : false ≡ true = t in cc), λ r. absurd r)
any_decides (c ∷ covers) p = or_decides (counts c p) (any_counts covers p) (counts_decides c p) (any_decides covers p)

joins_decides : (p q : Piece) → Decides (joins p q) (Joins p q)
joins_decides p q =
    let d : Decides (joins p q) ((p.at + p.len ≡ q.at) × ((p.stamp ≡ q.stamp) × ((p.writer ≡ q.writer) × (p.physical + p.len ≡ q.physical)))) =
    Decides-and (p.at + p.len == q.at) _ (Decides-eqb (p.at + p.len) q.at)
    (Decides-and (p.stamp == q.stamp) _ (Decides-eqb p.stamp q.stamp)
    (Decides-and (p.writer == q.writer) (p.physical + p.len == q.physical) (Decides-eqb p.writer q.writer) (Decides-eqb (p.physical + p.len) q.physical))) in
    (λ t. (let h = d.0 t in record { touch = h.0; stamps = h.1.0; writers = h.1.1.0; logs = h.1.1.1 }), λ r. d.1 (r.touch, (r.stamps, (r.writers, r.logs))))

ends_decides : (p : Piece) (pieces : List Piece) → Decides (ends_before p pieces) (Follows p pieces)
ends_decides p [] = (λ t. tt, λ r. refl)
ends_decides p (q ∷ pieces) = Decides-and (nat_le (p.at + p.len) q.at) (if joins p q then false else true) (le_decides (p.at + p.len) q.at) (not_decides (joins p q) (joins_decides p q))

pub pieces_decide : (covers : List Cover) (pieces : List Piece) → Decides (are_pieces covers pieces) (AreFlatPieces covers pieces)
pieces_decide covers [] = (λ t. record { runs = tt; covered = tt }, λ r. refl)
pieces_decide covers (p ∷ pieces) =
    let d : Decides (are_pieces covers (p ∷ pieces)) (IsFormed p × (AnyCovers p covers × (Follows p pieces × AreFlatPieces covers pieces))) =
    Decides-and (is_piece p) _ (formed_decides p)
    (Decides-and (any_counts covers p) _ (any_decides covers p)
    (Decides-and (ends_before p pieces) (are_pieces covers pieces) (ends_decides p pieces) (pieces_decide covers pieces))) in (
      λ t. (let h = d.0 t in record {
        runs = (record { not_empty = h.0.some; within = h.0.within; in_log = h.0.in_log }, h.1.1.0, h.1.1.1.runs);
        covered = (record { valid = record { not_empty = h.0.some; near = h.0.within; stamped = h.0.stamped; stamp_fits = h.0.stamp_fits }; counted = h.1.0 }, h.1.1.1.covered);
      }),
      λ r. d.1 (
        record { some = r.runs.0.not_empty; within = r.runs.0.within; stamped = r.covered.0.valid.stamped; stamp_fits = r.covered.0.valid.stamp_fits; in_log = r.runs.0.in_log },
        (r.covered.0.counted, (r.runs.1, record { runs = r.runs.2; covered = r.covered.1 })),
      ),
    )

first_runs : (count : ℕ) (pieces : List Piece) → AreRuns pieces → AreRuns (take count pieces)
first_runs zero pieces are = tt
first_runs (suc count) [] are = tt
first_runs (suc zero) (p ∷ pieces) are = (are.0, tt, tt)
first_runs (suc (suc count)) (p ∷ []) are = are
first_runs (suc (suc count)) (p ∷ q ∷ pieces) are = (are.0, are.1, first_runs (suc count) (q ∷ pieces) are.2)

first_all : (covers : List Cover) (count : ℕ) (pieces : List Piece) → AllByRecursion (IsFlatPiece covers) pieces → AllByRecursion (IsFlatPiece covers) (take count pieces)
first_all covers zero pieces all = tt
first_all covers (suc count) [] all = tt
first_all covers (suc count) (p ∷ pieces) all = (all.0, first_all covers count pieces all.1)

first_pieces : (covers : List Cover) (count : ℕ) (pieces : List Piece) → AreFlatPieces covers pieces → AreFlatPieces covers (take count pieces)
first_pieces covers count pieces are = record { runs = first_runs count pieces are.runs; covered = first_all covers count pieces are.covered }

-- ---- bytes

pub head_decides : (bytes : List ℕ) → Decides (has_head bytes) (HasHead bytes)
head_decides bytes =
    let d : Decides (has_head bytes) ((HEAD_SIZE ≤ length bytes) × (take 8 bytes ≡ letters)) =
    Decides-and (nat_le HEAD_SIZE (length bytes)) (same_bytes (take 8 bytes) letters) (le_decides HEAD_SIZE (length bytes)) (bytes_decide (take 8 bytes) letters) in
    (λ t. (let h = d.0 t in record { long = h.0; lettered = h.1 }), λ r. d.1 (r.long, r.lettered))

pub length_decides : (bytes : List ℕ) → Decides (has_length (length bytes) bytes) (HasLength bytes)
length_decides bytes = Decides-eqb (length bytes) (HEAD_SIZE + COVER_SIZE * number_in 8 bytes + ENTRY_SIZE * number_in 16 bytes)

judged-valid : (flat : Flat) → IsFlat flat → judged flat ≡ Ok flat
judged-valid flat valid =
    let covers : first_break are_covers flat.covers ≡ None = unbroken are_covers AreCovers covers_decide flat.covers (λ n. first_covers n flat.covers valid.covers) in
    let pieces : first_break (are_pieces flat.covers) flat.pieces ≡ None =
    unbroken (are_pieces flat.covers) (AreFlatPieces flat.covers) (pieces_decide flat.covers) flat.pieces (λ n. first_pieces flat.covers n flat.pieces valid.pieces) in
    ap (λ o. unless_broken o (λ index. HEAD_SIZE + COVER_SIZE * index) (unless_broken (first_break (are_pieces flat.covers) flat.pieces) (λ index. HEAD_SIZE + COVER_SIZE * length flat.covers + ENTRY_SIZE * index) (Ok flat))) covers
    ∙ ap (λ o. unless_broken o (λ index. HEAD_SIZE + COVER_SIZE * length flat.covers + ENTRY_SIZE * index) (Ok flat)) pieces

judged-broken : (flat : Flat) (place : ℕ) → BreaksFirst flat place → judged flat ≡ Err place
judged-broken flat place (inl bad) =
    let covers : first_break are_covers flat.covers ≡ Some bad.0 = breaks_there are_covers AreCovers covers_decide flat.covers bad.0 first_covers bad.1 in
    ap (λ o. unless_broken o (λ index. HEAD_SIZE + COVER_SIZE * index) (unless_broken (first_break (are_pieces flat.covers) flat.pieces) (λ index. HEAD_SIZE + COVER_SIZE * length flat.covers + ENTRY_SIZE * index) (Ok flat))) covers
    ∙ ap Err (sym bad.2)
judged-broken flat place (inr bad) =
    let covers : first_break are_covers flat.covers ≡ None = unbroken are_covers AreCovers covers_decide flat.covers (λ n. first_covers n flat.covers bad.1) in
    let pieces : first_break (are_pieces flat.covers) flat.pieces ≡ Some bad.0 =
    breaks_there (are_pieces flat.covers) (AreFlatPieces flat.covers) (pieces_decide flat.covers) flat.pieces bad.0 (first_pieces flat.covers) bad.2 in
    ap (λ o. unless_broken o (λ index. HEAD_SIZE + COVER_SIZE * index) (unless_broken (first_break (are_pieces flat.covers) flat.pieces) (λ index. HEAD_SIZE + COVER_SIZE * length flat.covers + ENTRY_SIZE * index) (Ok flat))) covers
    ∙ ap (λ o. unless_broken o (λ index. HEAD_SIZE + COVER_SIZE * length flat.covers + ENTRY_SIZE * index) (Ok flat)) pieces
    ∙ ap Err (sym bad.3)

-- what bytes with a head of the right length tell
told-whole : (bytes : List ℕ) → HasHead bytes → HasLength bytes → flat_told bytes ≡ judged (flat_in bytes)
unfolding flat_told
told-whole bytes head len =
    cond-true (has_head bytes) (if has_length (length bytes) bytes then judged (flat_in bytes) else Err 8) (Err 0) ((head_decides bytes).1 head)
    ∙ cond-true (has_length (length bytes) bytes) (judged (flat_in bytes)) (Err 8) ((length_decides bytes).1 len)

-- a valid flattened index that the bytes spell is told
pub flat_told-valid : (bytes : List ℕ) (flat : Flat) → IsFlat flat → SpellsFlat bytes flat → flat_told bytes ≡ Ok flat
flat_told-valid bytes flat valid spells =
    told-whole bytes (head_spelled bytes flat spells) (length_spelled bytes flat spells) ∙ ap judged (sym (is_in bytes flat spells)) ∙ judged-valid flat valid

-- the place of the first fault is told
pub flat_told-bad : (bytes : List ℕ) (place : ℕ) → IsBadAt bytes place → flat_told bytes ≡ Err place
unfolding flat_told
flat_told-bad bytes place (inl bad) =
    cond-false (has_head bytes) (if has_length (length bytes) bytes then judged (flat_in bytes) else Err 8) (Err 0) (broken (has_head bytes) (head_decides bytes) bad.0) ∙ ap Err (sym bad.1)
flat_told-bad bytes place (inr (inl bad)) =
    cond-true (has_head bytes) (if has_length (length bytes) bytes then judged (flat_in bytes) else Err 8) (Err 0) ((head_decides bytes).1 bad.0)
    ∙ cond-false (has_length (length bytes) bytes) (judged (flat_in bytes)) (Err 8) (broken (has_length (length bytes) bytes) (length_decides bytes) bad.1) ∙ ap Err (sym bad.2)
flat_told-bad bytes place (inr (inr bad)) =
    told-whole bytes (head_spelled bytes bad.0 bad.1) (length_spelled bytes bad.0 bad.1) ∙ ap judged (sym (is_in bytes bad.0 bad.1)) ∙ judged-broken bad.0 place bad.2

-- ---- the first bytes

number_kept : (k n : ℕ) (bytes : List ℕ) → k + 8 ≤ n → number_in k (take n bytes) ≡ number_in k bytes
number_kept k n bytes h =
    let whole : k + (n - k) ≡ n = omega (arith, h) in
    let there : drop k (take n bytes) ≡ take (n - k) (drop k bytes) = ap (λ m. drop k (take m bytes)) (sym whole) ∙ drop-take k (n - k) bytes in
    ap (λ b. from_le_bytes w64 (take 8 b)) there ∙ ap (from_le_bytes w64) (take-take 8 (n - k) (drop k bytes) (omega (arith, h)))

-- the first bytes of a flattened index have no fault
pub flat_fault-none : (bytes : List ℕ) (flat : Flat) (n : ℕ) → SpellsFlat bytes flat → 24 ≤ n → flat_fault (length bytes) (take n bytes) ≡ None
flat_fault-none bytes flat n spells h =
    let first : List ℕ = take n bytes in
    let head = head_spelled bytes flat spells in
    let begins : has_head first ≡ true = (head_decides first).1 (record { long = omega (arith, h, head.long, length-take n bytes); lettered = take-take 8 n bytes (omega (arith, h)) ∙ head.lettered }) in
    let covers : number_in 8 first ≡ number_in 8 bytes = number_kept 8 n bytes (omega (arith, h)) in
    let pieces : number_in 16 first ≡ number_in 16 bytes = number_kept 16 n bytes (omega (arith, h)) in
    let size : length bytes ≡ HEAD_SIZE + COVER_SIZE * number_in 8 first + ENTRY_SIZE * number_in 16 first = length_spelled bytes flat spells ∙ (λ i. HEAD_SIZE + COVER_SIZE * sym covers i + ENTRY_SIZE * sym pieces i) in
    let d : Decides (has_length (length bytes) first) (length bytes ≡ HEAD_SIZE + COVER_SIZE * number_in 8 first + ENTRY_SIZE * number_in 16 first) = Decides-eqb (length bytes) (HEAD_SIZE + COVER_SIZE * number_in 8 first + ENTRY_SIZE * number_in 16 first) in
    cond-true (has_head first) (if has_length (length bytes) first then None else Some 8) (Some 0) begins ∙ cond-true (has_length (length bytes) first) None (Some 8) (d.1 size)
