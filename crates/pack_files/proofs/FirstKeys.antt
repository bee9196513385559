-- The piece that has a byte is the first that ends past it.
use Rattle.std.proofs.Common.{◌≡◌, ℕ, zero, suc, ◌+◌, ◌-◌, ◌≤◌, ◌<◌, max, min, nat_le, true, false, List, [], ◌∷◌, length, take, drop, length-drop, Some, None, refl, sym, ap, ◌∙◌, inl, inr, arith}
use Rattle.std.proofs.Math.Seq.{take-length}
use Rattle.std.proofs.lemmas.Bool.{cases_lt, cond-false}
use Rattle.std.proofs.lemmas.Bool.Decides.{nat_tests}
use Rattle.plain_file.specs.declared.pieces.Piece.{Piece}
use Rattle.plain_file.specs.Runs.{AreRuns, EndsPast}
use Rattle.plain_file.specs.Sources.{has_byte, source_at, source_in}
use Rattle.plain_file.proofs.Facts.{has-before, source_at-before, source_at-here, source_at-past}
use Rattle.read_plan.specs.Ranges.{cut_to_range, pieces_in_range}
use Rattle.read_plan.proofs.Facts.{pieces_in-met, pieces_in-missed}
use Rattle.pack_files.specs.Keys.{first_key}
use Rattle.pack_files.specs.Scanning.{key_at, key_of}

pub runs_behind : (i : ℕ) (pieces : List Piece) → AreRuns pieces → AreRuns (drop i pieces)
runs_behind zero pieces runs = runs
runs_behind (suc i) [] runs = tt
runs_behind (suc i) (p ∷ pieces) runs = runs_behind i pieces runs.2

-- a slice from a place on is what lies behind that place
pub rest_all : (i : ℕ) (pieces : List Piece) → take (length pieces - i) (drop i pieces) ≡ drop i pieces
rest_all i pieces = rw (← length-drop i pieces, take-length) refl

-- ---- the pieces that have a byte say where it comes from

before_first : (p : Piece) (pieces : List Piece) (x : ℕ) → x < p.at → source_at (p ∷ pieces) x ≡ source_at pieces x
before_first p pieces x before = cond-false (has_byte p x) (Some (source_in x p)) (source_at pieces x) (has-before p x before)

same_source : (at : ℕ) (p : Piece) → p.at ≤ at → source_in at (cut_to_range at (at + 1) p) ≡ source_in at p
same_source at p from =
    let place : p.physical + (max at p.at - p.at) + (at - max at p.at) ≡ p.physical + (at - p.at) = omega (arith, from) in
    ap (λ (n : ℕ). record { stamp = p.stamp; writer = p.writer; place = n }) place

of_range : (at : ℕ) (pieces : List Piece) → source_at (pieces_in_range at (at + 1) pieces) at ≡ source_at pieces at
of_range at [] = refl
of_range at (p ∷ pieces) =
    let rest : source_at (pieces_in_range at (at + 1) pieces) at ≡ source_at pieces at = of_range at pieces in
    elim (cases_lt (max at p.at) (min (at + 1) (p.at + p.len))) [
      | inl there ↦
          ap (λ (ps : List Piece). source_at ps at) (pieces_in-met at (at + 1) p pieces there)
          ∙ source_at-here (cut_to_range at (at + 1) p) (pieces_in_range at (at + 1) pieces) at (omega (arith, there)) (omega (arith, there))
          ∙ ap Some (same_source at p (omega (arith, there)))
          ∙ sym (source_at-here p pieces at (omega (arith, there)) (omega (arith, there)))
      | inr missed ↦
          ap (λ (ps : List Piece). source_at ps at) (pieces_in-missed at (at + 1) p pieces missed) ∙ rest ∙ elim (cases_lt at p.at) [
            | inl before ↦ sym (before_first p pieces at before)
            | inr from ↦ sym (source_at-past p pieces at (omega (arith, missed, from)))
          ]
    ]

-- ---- the first piece that ends past it

first_has : (at : ℕ) (pieces : List Piece) → AreRuns pieces → EndsPast at pieces → first_key pieces at ≡ key_of (source_at pieces at)
first_has at [] runs past = refl
first_has at (p ∷ pieces) runs past = elim (cases_lt at p.at) [
  | inl before ↦
      let test : nat_le p.at at ≡ false = grind (arith, nat_tests, before) in
      let none : source_at (p ∷ pieces) at ≡ None = source_at-before p.at (p ∷ pieces) at runs (omega arith) before in
      let zeros : first_key (p ∷ pieces) at ≡ key_of None = rw test refl in
      zeros ∙ ap key_of (sym none)
  | inr from ↦
      let test : nat_le p.at at ≡ true = grind (arith, nat_tests, from) in
      let here : source_at (p ∷ pieces) at ≡ Some (source_in at p) = source_at-here p pieces at from past in
      let its : first_key (p ∷ pieces) at ≡ key_of (Some (source_in at p)) = rw test refl in
      its ∙ ap key_of (sym here)
]

pub first_tells : (pieces : List Piece) (at first : ℕ) → AreRuns pieces → EndsPast at (drop first pieces)
    → ((until : ℕ) → pieces_in_range at until (drop first pieces) ≡ pieces_in_range at until pieces)
    → first_key (drop first pieces) at ≡ key_at pieces at
first_tells pieces at first runs past skipped =
    first_has at (drop first pieces) (runs_behind first pieces runs) past
    ∙ ap key_of (sym (of_range at (drop first pieces)) ∙ ap (λ (ps : List Piece). source_at ps at) (skipped (at + 1)) ∙ of_range at pieces)
