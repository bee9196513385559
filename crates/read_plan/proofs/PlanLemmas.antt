-- The parts of a range: their lengths, and what they spell.
use Rattle.std.proofs.Common.{◌≡◌, ℕ, ◌+◌, ◌-◌, ◌<◌, ◌≤◌, inl, inr, ◌==◌, min, List, [], ◌∷◌, ◌++◌, refl, ap, ◌∙◌, sym, subst, arith, rules, length, take, drop, get_or, replicate, map, filter}
use Rattle.std.specs.List.{All, AllByRecursion, sum_by}
use Rattle.std.proofs.lemmas.Bool.{cases_lt, cases_Bool, cond-true, cond-false, eqb-true, eqb-false}
use Rattle.std.proofs.lemmas.Grind.{same_number_lists}
use Rattle.std.proofs.lemmas.List.{same_lists, places, append-nil, get_or-take, get_or-drop, get_or-replicate, length-take, length-drop, length-replicate, take_min}
use Rattle.std.proofs.lemmas.List.Elements.{recursion_from_All, All-from_recursion}
use Rattle.std.proofs.lemmas.List.Recursion.{is_sum_by}
use Rattle.plain_file.specs.declared.pieces.Piece.{Piece}
use Rattle.plain_file.specs.declared.changes.Change.{Change}
use Rattle.plain_file.specs.File.{plain, plain_size, slice, HasItsBytes}
use Rattle.plain_file.specs.Keys.{KeysDiffer}
use Rattle.plain_file.specs.Shows.{entries_of, ShowsNewest}
use Rattle.plain_file.specs.Sources.{source_at}
use Rattle.plain_file.specs.Runs.{AreRuns, ArePiecesOf}
use Rattle.plain_file.specs.Logs.{IsLogged, ArePlaced, logged_byte}
use Rattle.plain_file.proofs.Facts.{source_at-here, source_at-past, ArePlaced-of, file_byte-logged, ShowsNewest-plain}
use Rattle.read_plan.specs.declared.part.Part.{Part}
use Rattle.read_plan.specs.declared.part.Part.TheVariants.{Hole}
use Rattle.read_plan.specs.Parts.{part_len, is_logged, AreHolesApart, spelled}
use Rattle.read_plan.specs.Ranges.{end_of, pieces_in_range}
use Rattle.read_plan.specs.Plan.{piece_part, hole, filled, plan_of}
use Rattle.read_plan.proofs.RangeLemmas.{Lies, Lies-range, Lies-in_range, ArePlaced-pieces_in, source_at-outside, source_at-pieces_in}

-- what holds of no part and of one hole that is not empty
hole_cases : (P : List Part → Type 0) (n : ℕ) → (n ≡ 0 → P []) → (0 < n → P (Hole n ∷ [])) → P (hole n)
hole_cases P n none one = elim (cases_Bool (n == 0)) [
  | inl empty ↦ subst P (sym (cond-true (n == 0) [] (Hole n ∷ []) empty)) (none (eqb-true n 0 empty))
  | inr full ↦ subst P (sym (cond-false (n == 0) [] (Hole n ∷ []) full)) (one (elim (cases_lt 0 n) [
    | inl above ↦ above
    | inr zero ↦ absurd (eqb-false n 0 full (omega arith))
  ]))
]

-- the lengths

abbrev total_len : List Part → ℕ
total_len [] = 0
total_len (part ∷ parts) = part_len part + total_len parts

total_len-hole : (n : ℕ) (parts : List Part) → total_len (hole n ++ parts) ≡ n + total_len parts
total_len-hole n parts = hole_cases (λ holes. total_len (holes ++ parts) ≡ n + total_len parts) n (λ none. omega arith) (λ some_bytes. omega arith)

total_len-hole_alone : (n : ℕ) → total_len (hole n) ≡ n
total_len-hole_alone n = hole_cases (λ holes. total_len holes ≡ n) n (λ none. sym none) (λ some_bytes. omega arith)

total_len-filled : (from until : ℕ) (pieces : List Piece) → Lies from until pieces → total_len (filled from until pieces) ≡ until - from
total_len-filled from until [] lies = total_len-hole_alone (until - from)
total_len-filled from until (p ∷ pieces) lies =
    let end : p.at + p.len ≤ until = Lies-range (p.at + p.len) until pieces lies.2 in
    let rest : total_len (filled (p.at + p.len) until pieces) ≡ until - (p.at + p.len) = total_len-filled (p.at + p.len) until pieces lies.2 in
    total_len-hole (p.at - from) (piece_part p ∷ filled (p.at + p.len) until pieces) ∙ omega (arith, lies.0)

pub lengths-filled : (from until : ℕ) (pieces : List Piece) → Lies from until pieces → sum_by part_len (filled from until pieces) ≡ until - from
lengths-filled from until pieces lies = sym (is_sum_by total_len part_len refl (λ _ _. refl) (filled from until pieces)) ∙ total_len-filled from until pieces lies

abbrev IsFull : Part → Type 0
IsFull part = 0 < part_len part

full-filled : (from until : ℕ) (pieces : List Piece) → Lies from until pieces → AllByRecursion IsFull (filled from until pieces)
full-filled from until [] lies = hole_cases (λ holes. AllByRecursion IsFull holes) (until - from) (λ none. tt) (λ some_bytes. (some_bytes, tt))
full-filled from until (p ∷ pieces) lies =
    let rest = full-filled (p.at + p.len) until pieces lies.2 in
    let parts : List Part = piece_part p ∷ filled (p.at + p.len) until pieces in
    hole_cases (λ holes. AllByRecursion IsFull (holes ++ parts)) (p.at - from) (λ none. (lies.1, rest)) (λ some_bytes. (some_bytes, (lies.1, rest)))

none_of_no_bytes : (parts : List Part) → AllByRecursion IsFull parts → total_len parts ≡ 0 → parts ≡ []
none_of_no_bytes [] full none = refl
none_of_no_bytes (part ∷ parts) full none = absurd (omega (arith, full.0))

pub AreHolesApart-filled : (from until : ℕ) (pieces : List Piece) → AreHolesApart (filled from until pieces)
AreHolesApart-filled from until [] = hole_cases (λ holes. AreHolesApart holes) (until - from) (λ none. tt) (λ some_bytes. (tt, tt))
AreHolesApart-filled from until (p ∷ pieces) =
    let rest = AreHolesApart-filled (p.at + p.len) until pieces in
    let parts : List Part = piece_part p ∷ filled (p.at + p.len) until pieces in
    hole_cases (λ holes. AreHolesApart (holes ++ parts)) (p.at - from) (λ none. rest) (λ some_bytes. (tt, rest))

pub filter-filled : (from until : ℕ) (pieces : List Piece) → filter is_logged (filled from until pieces) ≡ map piece_part pieces
filter-filled from until [] = hole_cases (λ holes. filter is_logged holes ≡ []) (until - from) (λ none. refl) (λ some_bytes. refl)
filter-filled from until (p ∷ pieces) =
    let rest = ap (λ parts. piece_part p ∷ parts) (filter-filled (p.at + p.len) until pieces) in
    let parts : List Part = piece_part p ∷ filled (p.at + p.len) until pieces in
    hole_cases (λ holes. filter is_logged (holes ++ parts) ≡ piece_part p ∷ map piece_part pieces) (p.at - from) (λ none. rest) (λ some_bytes. rest)

-- what the parts spell

spelled-hole : (logs : ℕ → List ℕ) (n : ℕ) (parts : List Part) → spelled logs (hole n ++ parts) ≡ replicate n 0 ++ spelled logs parts
spelled-hole logs n parts =
    hole_cases (λ holes. spelled logs (holes ++ parts) ≡ replicate n 0 ++ spelled logs parts) n (λ none. sym (ap (λ m. replicate m 0 ++ spelled logs parts) none)) (λ some_bytes. refl)

spelled-hole_alone : (logs : ℕ → List ℕ) (n : ℕ) → spelled logs (hole n) ≡ replicate n 0
spelled-hole_alone logs n = hole_cases (λ holes. spelled logs holes ≡ replicate n 0) n (λ none. sym (ap (λ m. replicate m 0) none)) (λ some_bytes. append-nil (replicate n 0))

-- two slices one after the other
slice_split : (file : List ℕ) (at n m : ℕ) → slice file at (n + m) ≡ slice file at n ++ slice file (at + n) m
slice_split file at n m = same_lists _ _ (search (rules, places)) (λ k d h. grind (arith, places))

slices_equal : (file log : List ℕ) (at place n : ℕ) → at + n ≤ length file → place + n ≤ length log → ((k : ℕ) → k < n → get_or file (at + k) 0 ≡ get_or log (place + k) 0) → slice log place n ≡ slice file at n
slices_equal file log at place n within logged same =
    let in_log : length (slice log place n) ≡ n = simp (length-take, length-drop) (omega arith) in
    let in_file : length (slice file at n) ≡ n = simp (length-take, length-drop) (omega arith) in
    same_number_lists (slice log place n) (slice file at n) (in_log ∙ sym in_file) (λ k h.
    let h' : k < n = omega arith in
    get_or-take n (drop place log) k 0 h' ∙ get_or-drop place log k 0 ∙ sym (same k h') ∙ sym (get_or-drop at file k 0) ∙ sym (get_or-take n (drop at file) k 0 h'))

zeros_equal : (file : List ℕ) (at n : ℕ) → at + n ≤ length file → ((k : ℕ) → k < n → get_or file (at + k) 0 ≡ 0) → replicate n 0 ≡ slice file at n
zeros_equal file at n within zeros =
    let in_file : length (slice file at n) ≡ n = simp (length-take, length-drop) (omega arith) in
    same_number_lists (replicate n 0) (slice file at n) (length-replicate n 0 ∙ sym in_file) (λ k h.
    let h' : k < n = omega (arith, length-replicate {A = ℕ}) in
    get_or-replicate n k 0 0 h' ∙ sym (zeros k h') ∙ sym (get_or-drop at file k 0) ∙ sym (get_or-take n (drop at file) k 0 h'))

-- each byte from one place up to another is the logged byte that the pieces name
abbrev pub AreNamed : (ℕ → List ℕ) → List ℕ → List Piece → ℕ → ℕ → Type 0
AreNamed logs file pieces from until = (x : ℕ) → from ≤ x → x < until → get_or file x 0 ≡ logged_byte logs (source_at pieces x)

-- the gap before a piece, the piece and what follows it
slice_parts : (file : List ℕ) (from at len until : ℕ) → from ≤ at → at + len ≤ until
    → slice file from (until - from) ≡ slice file from (at - from) ++ (slice file at len ++ slice file (at + len) (until - (at + len)))
slice_parts file from at len until before after =
    let lens : until - from ≡ (at - from) + (len + (until - (at + len))) = omega arith in
    let gap_end : from + (at - from) ≡ at = omega arith in
    ap (slice file from) lens
    ∙ slice_split file from (at - from) (len + (until - (at + len)))
    ∙ ap (λ n. slice file from (at - from) ++ slice file n (len + (until - (at + len)))) gap_end
    ∙ ap (λ t. slice file from (at - from) ++ t) (slice_split file at len (until - (at + len)))

spelled-first : (logs : ℕ → List ℕ) (file : List ℕ) (p : Piece) (pieces : List Piece) (from until : ℕ) → Lies from until (p ∷ pieces) → ArePlaced logs (p ∷ pieces) → until ≤ length file
    → AreNamed logs file (p ∷ pieces) from until
    → spelled logs (filled (p.at + p.len) until pieces) ≡ slice file (p.at + p.len) (until - (p.at + p.len))
    → spelled logs (filled from until (p ∷ pieces)) ≡ slice file from (until - from)
spelled-first logs file p pieces from until lies placed within named rest =
    let before : from ≤ p.at = lies.0 in
    let after : p.at + p.len ≤ until = Lies-range (p.at + p.len) until pieces lies.2 in
    let first_on : Lies p.at until (p ∷ pieces) = (omega arith, lies.1, lies.2) in
    let gap : replicate (p.at - from) 0 ≡ slice file from (p.at - from) =
    zeros_equal file from (p.at - from) (omega arith) (λ k h.
    named (from + k) (omega arith) (omega arith) ∙ ap (logged_byte logs) (source_at-outside p.at until (p ∷ pieces) (from + k) first_on (omega arith))) in
    let piece : slice (logs p.writer) p.physical p.len ≡ slice file p.at p.len =
    slices_equal file (logs p.writer) p.at p.physical p.len (omega arith) placed.0 (λ k h.
    let place : p.physical + (p.at + k - p.at) ≡ p.physical + k = omega arith in
    named (p.at + k) (omega arith) (omega arith) ∙ ap (logged_byte logs) (source_at-here p pieces (p.at + k) (omega arith) (omega arith)) ∙ ap (λ n. get_or (logs p.writer) n 0) place) in
    spelled-hole logs (p.at - from) (piece_part p ∷ filled (p.at + p.len) until pieces)
    ∙ ap (λ t. t ++ (slice (logs p.writer) p.physical p.len ++ spelled logs (filled (p.at + p.len) until pieces))) gap
    ∙ ap (λ t. slice file from (p.at - from) ++ (t ++ spelled logs (filled (p.at + p.len) until pieces))) piece
    ∙ ap (λ t. slice file from (p.at - from) ++ (slice file p.at p.len ++ t)) rest
    ∙ sym (slice_parts file from p.at p.len until before after)

-- Pieces with their gaps spell the slice of the file.
pub spelled-filled : (logs : ℕ → List ℕ) (file : List ℕ) (pieces : List Piece) (from until : ℕ) → Lies from until pieces → ArePlaced logs pieces → until ≤ length file → AreNamed logs file pieces from until
    → spelled logs (filled from until pieces) ≡ slice file from (until - from)
spelled-filled logs file [] from until lies placed within named =
    spelled-hole_alone logs (until - from) ∙ zeros_equal file from (until - from) (omega arith) (λ k h. named (from + k) (omega arith) (omega arith))
spelled-filled logs file (p ∷ pieces) from until lies placed within named =
    spelled-first logs file p pieces from until lies placed within named
    (spelled-filled logs file pieces (p.at + p.len) until lies.2 placed.1 within (λ x h l. named x (omega (arith, lies.0)) l ∙ ap (logged_byte logs) (source_at-past p pieces x h)))

-- the whole plan

there_of : (size at len : ℕ) → end_of size at len - at ≡ min len (size - at)
there_of size at len = omega arith

Lies-plan : (pieces : List Piece) (size at len : ℕ) → AreRuns pieces → Lies at (end_of size at len) (pieces_in_range at (end_of size at len) pieces)
Lies-plan pieces size at len runs = Lies-in_range at (end_of size at len) pieces runs (omega arith)

pub lengths-plan : (pieces : List Piece) (size at len : ℕ) → AreRuns pieces → sum_by part_len (plan_of pieces size at len) ≡ min len (size - at)
lengths-plan pieces size at len runs =
    lengths-filled at (end_of size at len) (pieces_in_range at (end_of size at len) pieces) (Lies-plan pieces size at len runs) ∙ there_of size at len

pub full-plan : (pieces : List Piece) (size at len : ℕ) → AreRuns pieces → All (λ part. 0 < part_len part) (plan_of pieces size at len)
full-plan pieces size at len runs =
    All-from_recursion IsFull (plan_of pieces size at len) (full-filled at (end_of size at len) (pieces_in_range at (end_of size at len) pieces) (Lies-plan pieces size at len runs))

-- a range that is empty has no parts
pub filled-nothing : (at until : ℕ) (pieces : List Piece) → AreRuns pieces → until ≡ at → filled at until (pieces_in_range at until pieces) ≡ []
filled-nothing at until pieces runs empty =
    let within : List Piece = pieces_in_range at until pieces in
    let lies : Lies at until within = Lies-in_range at until pieces runs (omega arith) in
    none_of_no_bytes (filled at until within) (full-filled at until within lies) (total_len-filled at until within lies ∙ (omega arith))

pub plan-nothing : (pieces : List Piece) (size at len : ℕ) → AreRuns pieces → min len (size - at) ≡ 0 → plan_of pieces size at len ≡ []
plan-nothing pieces size at len runs none = filled-nothing at (end_of size at len) pieces runs (omega arith)

-- the parts up to the range's end, with the end as the code finds it
pub plan_is : (parts : List Part) (pieces : List Piece) (size at len left there : ℕ) → left ≡ size - at → there ≡ min len left
    → parts ≡ filled at (at + there) (pieces_in_range at (at + there) pieces) → parts ≡ plan_of pieces size at len
plan_is parts pieces size at len left there l t exact =
    exact ∙ ap (λ n. filled at (at + n) (pieces_in_range at (at + n) pieces)) (t ∙ ap (min len) l)

-- The plan spells the slice of each file that has the pieces and the size.
pub spelled-plan : (changes : List Change) (logs : ℕ → List ℕ) (pieces : List Piece) (size at len : ℕ) → KeysDiffer (entries_of changes) → All HasItsBytes changes → All (IsLogged logs) changes
    → ArePiecesOf changes pieces → size ≡ plain_size changes
    → spelled logs (plan_of pieces size at len) ≡ slice (plain changes) at len
spelled-plan changes logs pieces size at len keys bytes all are is =
    let file : List ℕ = plain changes in
    let there : ℕ = min len (size - at) in
    let until : ℕ = end_of size at len in
    let within : List Piece = pieces_in_range at until pieces in
    let shown : ShowsNewest changes file = ShowsNewest-plain changes keys (recursion_from_All HasItsBytes changes bytes) in
    let spells : spelled logs (plan_of pieces size at len) ≡ slice file at there =
    elim (cases_lt at size) [
      | inl before ↦ spelled-filled logs file within at until (Lies-plan pieces size at len are.runs)
          (ArePlaced-pieces_in logs at until pieces (ArePlaced-of changes pieces logs bytes are all)) (omega arith)
          (λ x low high. file_byte-logged changes file pieces logs shown are all x ∙ ap (logged_byte logs) (sym (source_at-pieces_in at until pieces x low high)))
          ∙ ap (slice file at) (there_of size at len)
      | inr past ↦
          (let none : there ≡ 0 = omega arith in
          ap (spelled logs) (plan-nothing pieces size at len are.runs none) ∙ sym (ap (slice file at) none))
    ] in
    spells
    ∙ ap (λ n. take n (drop at file)) (ap (min len) (ap (λ n. n - at) is ∙ sym (length-drop at file)))
    ∙ take_min len (drop at file)
