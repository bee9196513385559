-- What a look at one piece tells of all that stand before or behind it.
use Rattle.std.proofs.Common.{◌≡◌, ℕ, ◌+◌, ◌<◌, ◌≤◌, inl, inr, List, length, get_or, ap, arith, ◌∙◌}
use Rattle.std.specs.List.{AllWithin}
use Rattle.std.proofs.lemmas.Bool.{cases_lt}
use Rattle.std.proofs.lemmas.List.{get_or_default}
use Rattle.plain_file.specs.declared.pieces.Piece.{Piece}
use Rattle.plain_file.specs.Runs.{AreRuns}
use Rattle.read_plan.proofs.RangeLemmas.{ends_in_turn}

-- all before a piece end by its begin
pub ended_before : (pieces : List Piece) (at place : ℕ) (e : Piece) → AreRuns pieces → place < length pieces
    → (get_or pieces place e).at ≤ at → AllWithin (λ (p : Piece). p.at + p.len ≤ at) pieces 0 place
ended_before pieces at place e runs there begun = λ k d low high. omega (arith, ends_in_turn pieces k place d e runs high there)

end_at : (pieces : List Piece) (k place : ℕ) (d e : Piece) → k ≡ place → place < length pieces
    → (get_or pieces k d).at + (get_or pieces k d).len ≡ (get_or pieces place e).at + (get_or pieces place e).len
end_at pieces k place d e same there =
    ap (λ (n : ℕ). (get_or pieces n d).at + (get_or pieces n d).len) same ∙ ap (λ (p : Piece). p.at + p.len) (get_or_default pieces place d e there)

-- and so do the piece and all before it where it ends by then
pub ended_up_to : (pieces : List Piece) (at place : ℕ) (e : Piece) → AreRuns pieces → place < length pieces
    → (get_or pieces place e).at + (get_or pieces place e).len ≤ at → AllWithin (λ (p : Piece). p.at + p.len ≤ at) pieces 0 (place + 1)
ended_up_to pieces at place e runs there ended = λ k d low high. elim (cases_lt k place) [
  | inl before ↦ ended_before pieces at place e runs there (omega arith) k d low before
  | inr here ↦ omega (arith, end_at pieces k place d e (omega arith) there)
]

-- all from a piece on that ends past a byte do
pub past_from : (pieces : List Piece) (at place : ℕ) (e : Piece) → AreRuns pieces → place < length pieces
    → at < (get_or pieces place e).at + (get_or pieces place e).len → AllWithin (λ (p : Piece). at < p.at + p.len) pieces place (length pieces)
past_from pieces at place e runs there past = λ k d low high. elim (cases_lt place k) [
  | inl behind ↦ omega (arith, ends_in_turn pieces place k e d runs behind high)
  | inr here ↦ omega (arith, end_at pieces k place d e (omega arith) there)
]
