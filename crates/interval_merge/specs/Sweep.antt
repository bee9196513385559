-- What a sweep over two lists of pieces keeps.
use Rattle.std.specs.Prelude.{ℕ, ◌+◌, ◌<◌, ◌≤◌, ◌≡◌, List, [], ◌∷◌, ◌++◌, Option, option_map, option_to_list, MatchOption}
use Rattle.std.specs.List.{AllByRecursion}
use Rattle.plfs_types.specs.declared.limits.TheConstants.{MAX_SIZE}
use Rattle.plain_file.specs.declared.pieces.Piece.{Piece}
use Rattle.plain_file.specs.Sources.{source_at, source_in, newer_source}
use Rattle.plain_file.specs.Runs.{AreRuns, EndsPast, IsPiece}

-- all pieces end by this byte
abbrev pub AllEndBy : ℕ → List Piece → Type 0
AllEndBy n pieces = AllByRecursion (λ (p : Piece). p.at + p.len ≤ n) pieces

-- the runs with one piece more, which may have grown the last one
pub record Extends (old : List Piece) (piece : Piece) (new : List Piece) : Type 0 where
  pub runs : AreRuns new
  pub says : (x : ℕ) → source_at new x ≡ source_at (old ++ piece ∷ []) x
  pub ends : AllEndBy (piece.at + piece.len) new

-- the first piece, if there is one, doesn't end before this byte
abbrev pub EndsFrom : ℕ → List Piece → Type 0
EndsFrom at [] = Unit {0}
EndsFrom at (p ∷ pieces) = at ≤ p.at + p.len

-- the piece has the bytes from one place up to another
pub record Holds (from until : ℕ) (p : Piece) : Type 0 where
  pub piece : IsPiece p
  pub starts : p.at ≤ from
  pub ends : until ≤ p.at + p.len

-- from one byte up to another the pieces say the same: this piece, or nothing
pub record SaysUntil (pieces : List Piece) (from : ℕ) (piece : Option Piece) (until : ℕ) : Type 0 where
  pub more : from < until
  pub within : until ≤ MAX_SIZE
  pub first : EndsFrom until pieces
  pub holds : MatchOption piece (Unit {0}) (Holds from until)
  pub same : (x : ℕ) → from ≤ x → x < until → source_at pieces x ≡ option_map (source_in x) piece

-- what is left of the pieces from a byte on
pub record IsRestFrom (whole : List Piece) (from : ℕ) (left : List Piece) : Type 0 where
  pub runs : AreRuns left
  pub first : EndsPast from left
  pub same : (x : ℕ) → from ≤ x → source_at left x ≡ source_at whole x

-- a piece lies from one byte on and ends at another
pub record LiesWithin (from until : ℕ) (p : Piece) : Type 0 where
  pub piece : IsPiece p
  pub starts : from ≤ p.at
  pub ends : p.at + p.len ≡ until

-- what the newer of two lists says from one byte up to another: this piece, or nothing
pub record IsPart (a b : List Piece) (from : ℕ) (piece : Option Piece) (until : ℕ) : Type 0 where
  pub more : from < until
  pub within : until ≤ MAX_SIZE
  pub first_a : EndsFrom until a
  pub first_b : EndsFrom until b
  pub holds : MatchOption piece (Unit {0}) (LiesWithin from until)
  pub same : (x : ℕ) → from ≤ x → x < until → newer_source (source_at a x) (source_at b x) ≡ source_at (option_to_list piece) x

-- the piece, if there is one, can lie behind these
abbrev pub CanLie : List Piece → Option Piece → Type 0
CanLie old piece = MatchOption piece (Unit {0}) (λ (p : Piece). IsPiece p × AllEndBy p.at old)

-- the runs with the piece behind them, if there is one
abbrev pub Lays : List Piece → Option Piece → List Piece → Type 0
Lays old piece new = MatchOption piece (new ≡ old) (λ (p : Piece). Extends old p new)
