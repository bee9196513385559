-- The pieces of a range: where they lie, and what they say of its bytes.
use Rattle.std.proofs.Common.{◌≡◌, ℕ, zero, suc, ◌+◌, ◌-◌, ◌<◌, ◌≤◌, inl, inr, min, max, List, [], ◌∷◌, None, Some, refl, ap, ◌∙◌, sym, subst, arith, length, drop, get_or, map, filter}
use Rattle.std.specs.List.{AllByRecursion, AllWithin}
use Rattle.std.proofs.lemmas.Bool.{cases_lt, cond-true, cond-false, le-ltb, lt-ltb}
use Rattle.plain_file.specs.declared.pieces.Piece.{Piece}
use Rattle.plain_file.specs.Sources.{has_byte, source_in, source_at}
use Rattle.plain_file.specs.Runs.{AreRuns, EndsPast}
use Rattle.plain_file.specs.Logs.{ArePlaced}
use Rattle.plain_file.proofs.Facts.{Starts, Starts-after, has-before, source_at-here, source_at-past}
use Rattle.read_plan.specs.Ranges.{meets, cut_to_range, pieces_in_range}

-- runs

pub AreRuns-drop : (i : ℕ) (pieces : List Piece) → AreRuns pieces → AreRuns (drop i pieces)
AreRuns-drop zero pieces runs = runs
AreRuns-drop (suc i) [] runs = tt
AreRuns-drop (suc i) (p ∷ pieces) runs = AreRuns-drop i pieces runs.2

later : (n : ℕ) (p : Piece) (pieces : List Piece) → n ≤ p.at → Starts (p.at + p.len) pieces → Starts n pieces
later n p [] h starts = tt
later n p (q ∷ pieces) h starts = omega arith

-- each piece begins at or past n
all_from : (n : ℕ) (pieces : List Piece) → AreRuns pieces → Starts n pieces → AllByRecursion (λ (q : Piece). n ≤ q.at) pieces
all_from n [] runs starts = tt
all_from n (p ∷ pieces) runs starts = (starts, all_from n pieces runs.2 (later n p pieces starts (Starts-after p pieces runs.1)))

at_place : (n : ℕ) (pieces : List Piece) (j : ℕ) (d : Piece) → AllByRecursion (λ (q : Piece). n ≤ q.at) pieces → j < length pieces → n ≤ (get_or pieces j d).at
at_place n [] j d all h = absurd (omega arith)
at_place n (p ∷ pieces) zero d all h = all.0
at_place n (p ∷ pieces) (suc j) d all h = at_place n pieces j d all.1 (omega arith)

-- a piece ends where a later one begins, or before it
pub ends_in_turn : (pieces : List Piece) (i j : ℕ) (d e : Piece) → AreRuns pieces → i < j → j < length pieces
    → (get_or pieces i d).at + (get_or pieces i d).len ≤ (get_or pieces j e).at
ends_in_turn [] i j d e runs lt h = absurd (omega arith)
ends_in_turn (p ∷ pieces) zero zero d e runs lt h = absurd (omega arith)
ends_in_turn (p ∷ pieces) (suc i) zero d e runs lt h = absurd (omega arith)
ends_in_turn (p ∷ pieces) zero (suc j) d e runs lt h =
    at_place (p.at + p.len) pieces j e (all_from (p.at + p.len) pieces runs.2 (Starts-after p pieces runs.1)) (omega arith)
ends_in_turn (p ∷ pieces) (suc i) (suc j) d e runs lt h = ends_in_turn pieces i j d e runs.2 (omega arith) (omega arith)

pub EndsPast-drop : (at i : ℕ) (pieces : List Piece) → AllWithin (λ (p : Piece). at < p.at + p.len) pieces i (length pieces) → EndsPast at (drop i pieces)
EndsPast-drop at zero [] h = tt
EndsPast-drop at zero (p ∷ pieces) h = h 0 p (omega arith) (omega arith)
EndsPast-drop at (suc i) [] h = tt
EndsPast-drop at (suc i) (p ∷ pieces) h = EndsPast-drop at i pieces (λ k d low high. h (suc k) d (omega arith) (omega arith))

-- what follows a piece ends past any byte up to the piece's end
pub EndsPast-next : (p : Piece) (pieces : List Piece) (at : ℕ) → AreRuns (p ∷ pieces) → at ≤ p.at + p.len → EndsPast at pieces
EndsPast-next p [] at runs h = tt
EndsPast-next p (q ∷ pieces) at runs h = let full : 0 < q.len = runs.2.0.not_empty in omega (arith, runs.1.0)

-- which pieces meet a range

pub pieces_in-met : (at until : ℕ) (p : Piece) (pieces : List Piece) → max at p.at < min until (p.at + p.len) → pieces_in_range at until (p ∷ pieces) ≡ cut_to_range at until p ∷ pieces_in_range at until pieces
pieces_in-met at until p pieces there =
    ap (map (cut_to_range at until)) (cond-true (meets at until p) (p ∷ filter (meets at until) pieces) (filter (meets at until) pieces) (lt-ltb (max at p.at) (min until (p.at + p.len)) there))

pub pieces_in-missed : (at until : ℕ) (p : Piece) (pieces : List Piece) → min until (p.at + p.len) ≤ max at p.at → pieces_in_range at until (p ∷ pieces) ≡ pieces_in_range at until pieces
pieces_in-missed at until p pieces missed =
    ap (map (cut_to_range at until)) (cond-false (meets at until p) (p ∷ filter (meets at until) pieces) (filter (meets at until) pieces) (le-ltb (max at p.at) (min until (p.at + p.len)) missed))

-- pieces that end at or before the range's first byte may be left out
pub pieces_in-skipped : (at until i : ℕ) (pieces : List Piece) → AllWithin (λ (p : Piece). p.at + p.len ≤ at) pieces 0 i → i ≤ length pieces → pieces_in_range at until (drop i pieces) ≡ pieces_in_range at until pieces
pieces_in-skipped at until zero pieces h l = refl
pieces_in-skipped at until (suc i) [] h l = absurd (omega arith)
pieces_in-skipped at until (suc i) (p ∷ pieces) h l =
    let ended : p.at + p.len ≤ at = h 0 p (omega arith) (omega arith) in
    pieces_in-skipped at until i pieces (λ k d low high. h (suc k) d (omega arith) (omega arith)) (omega arith)
    ∙ sym (pieces_in-missed at until p pieces (omega arith))

-- none of the pieces from the range's end on meets it
pub pieces_in-after : (at until : ℕ) (pieces : List Piece) → AreRuns pieces → Starts until pieces → pieces_in_range at until pieces ≡ []
pieces_in-after at until [] runs starts = refl
pieces_in-after at until (p ∷ pieces) runs starts =
    pieces_in-missed at until p pieces (omega arith) ∙ pieces_in-after at until pieces runs.2 (later until p pieces starts (Starts-after p pieces runs.1))

-- where they lie

-- pieces in order that share no byte, none of them empty, from one byte up to another
abbrev pub Lies : ℕ → ℕ → List Piece → Type 0
Lies from until [] = from ≤ until
Lies from until (p ∷ pieces) = (from ≤ p.at) × (0 < p.len) × Lies (p.at + p.len) until pieces

pub Lies-range : (from until : ℕ) (pieces : List Piece) → Lies from until pieces → from ≤ until
Lies-range from until [] lies = lies
Lies-range from until (p ∷ pieces) lies = let rest : p.at + p.len ≤ until = Lies-range (p.at + p.len) until pieces lies.2 in omega (arith, lies.0)

-- the pieces of a range, of pieces from byte n on, lie from any byte on that is not past both the range's beginning and n
pub Lies-pieces_in : (at until n from : ℕ) (pieces : List Piece) → AreRuns pieces → Starts n pieces → at ≤ from → from ≤ until → from ≤ max at n → Lies from until (pieces_in_range at until pieces)
Lies-pieces_in at until n from [] runs starts low high first = high
Lies-pieces_in at until n from (p ∷ pieces) runs starts low high first =
    let P : List Piece → Type 0 = λ ps. Lies from until ps in
    elim (cases_lt (max at p.at) (min until (p.at + p.len))) [
      | inl there ↦
          (let end : ℕ = max at p.at + (min until (p.at + p.len) - max at p.at) in
          let rest : Lies end until (pieces_in_range at until pieces) =
          Lies-pieces_in at until (p.at + p.len) end pieces runs.2 (Starts-after p pieces runs.1) (omega arith) (omega arith) (omega arith) in
          subst P (sym (pieces_in-met at until p pieces there)) (omega arith, omega arith, rest))
      | inr missed ↦ subst P (sym (pieces_in-missed at until p pieces missed)) (Lies-pieces_in at until n from pieces runs.2 (later n p pieces starts (Starts-after p pieces runs.1)) low high first)
    ]

Starts-0 : (pieces : List Piece) → Starts 0 pieces
Starts-0 [] = tt
Starts-0 (p ∷ pieces) = omega arith

pub Lies-in_range : (at until : ℕ) (pieces : List Piece) → AreRuns pieces → at ≤ until → Lies at until (pieces_in_range at until pieces)
Lies-in_range at until pieces runs range = Lies-pieces_in at until 0 at pieces runs (Starts-0 pieces) (omega arith) range (omega arith)

-- they lie in the logs where the whole pieces do
pub ArePlaced-pieces_in : (logs : ℕ → List ℕ) (at until : ℕ) (pieces : List Piece) → ArePlaced logs pieces → ArePlaced logs (pieces_in_range at until pieces)
ArePlaced-pieces_in logs at until [] placed = tt
ArePlaced-pieces_in logs at until (p ∷ pieces) placed =
    let P : List Piece → Type 0 = λ ps. ArePlaced logs ps in
    let rest : ArePlaced logs (pieces_in_range at until pieces) = ArePlaced-pieces_in logs at until pieces placed.1 in
    elim (cases_lt (max at p.at) (min until (p.at + p.len))) [
      | inl there ↦ subst P (sym (pieces_in-met at until p pieces there)) (omega (arith, placed.0), rest)
      | inr missed ↦ subst P (sym (pieces_in-missed at until p pieces missed)) rest
    ]

-- what they say

source_at-before_first : (p : Piece) (pieces : List Piece) (x : ℕ) → x < p.at → source_at (p ∷ pieces) x ≡ source_at pieces x
source_at-before_first p pieces x h = cond-false (has_byte p x) _ (source_at pieces x) (has-before p x h)

-- nothing lies before them
pub source_at-outside : (from until : ℕ) (pieces : List Piece) (x : ℕ) → Lies from until pieces → x < from → source_at pieces x ≡ None
source_at-outside from until [] x lies h = refl
source_at-outside from until (p ∷ pieces) x lies h =
    source_at-before_first p pieces x (omega (arith, lies.0)) ∙ source_at-outside (p.at + p.len) until pieces x lies.2 (omega (arith, lies.0))

source_in-cut : (at until : ℕ) (p : Piece) (x : ℕ) → at ≤ x → p.at ≤ x → source_in x (cut_to_range at until p) ≡ source_in x p
source_in-cut at until p x low from =
    let place : p.physical + (max at p.at - p.at) + (x - max at p.at) ≡ p.physical + (x - p.at) = omega arith in
    ap (λ (n : ℕ). record { stamp = p.stamp; writer = p.writer; place = n }) place

-- the pieces of a range say of its bytes what all pieces say
pub source_at-pieces_in : (at until : ℕ) (pieces : List Piece) (x : ℕ) → at ≤ x → x < until → source_at (pieces_in_range at until pieces) x ≡ source_at pieces x
source_at-pieces_in at until [] x low high = refl
source_at-pieces_in at until (p ∷ pieces) x low high =
    let rest : source_at (pieces_in_range at until pieces) x ≡ source_at pieces x = source_at-pieces_in at until pieces x low high in
    elim (cases_lt (max at p.at) (min until (p.at + p.len))) [
      | inl there ↦ ap (λ ps. source_at ps x) (pieces_in-met at until p pieces there) ∙ elim (cases_lt x p.at) [
        | inl before ↦ source_at-before_first (cut_to_range at until p) (pieces_in_range at until pieces) x (omega arith) ∙ rest ∙ sym (source_at-before_first p pieces x before)
        | inr from ↦ elim (cases_lt x (p.at + p.len)) [
          | inl here ↦ source_at-here (cut_to_range at until p) (pieces_in_range at until pieces) x (omega arith) (omega arith) ∙ ap Some (source_in-cut at until p x low from) ∙ sym (source_at-here p pieces x from here)
          | inr past ↦ source_at-past (cut_to_range at until p) (pieces_in_range at until pieces) x (omega arith) ∙ rest ∙ sym (source_at-past p pieces x past)
        ]
      ]
      | inr missed ↦ ap (λ ps. source_at ps x) (pieces_in-missed at until p pieces missed) ∙ rest ∙ elim (cases_lt x p.at) [
        | inl before ↦ sym (source_at-before_first p pieces x before)
        | inr from ↦ sym (source_at-past p pieces x (omega arith))
      ]
    ]
