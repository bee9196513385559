-- Where the first piece that ends past a byte of the file may stand.
use Rattle.std.specs.Prelude.{ℕ, ◌+◌, ◌≤◌, ◌<◌, List, length}
use Rattle.std.specs.List.{AllWithin}
use Rattle.plain_file.specs.declared.pieces.Piece.{Piece}
use Rattle.read_plan.specs.declared.searching.Bracket.{Bracket}

-- all pieces before the bracket end at or before byte `at`, and all from its end on end past it
pub record IsBracket (pieces : List Piece) (at : ℕ) (bracket : Bracket) : Type 0 where
  pub ordered : bracket.low ≤ bracket.high
  pub within : bracket.high ≤ length pieces
  pub ended : AllWithin (λ (p : Piece). p.at + p.len ≤ at) pieces 0 bracket.low
  pub past : AllWithin (λ (p : Piece). at < p.at + p.len) pieces bracket.high (length pieces)
