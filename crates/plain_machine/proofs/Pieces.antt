-- The pieces of the files in worked examples.
use Rattle.std.specs.Prelude.{◌≡◌, refl, ℕ, ◌+◌, ◌≤◌, ◌<◌, List, [], ◌∷◌, zero, suc, option_map}
use Rattle.std.proofs.Common.{arith}
use Rattle.std.proofs.lemmas.Bool.Decides.{nat_tests}
use Rattle.plfs_types.specs.declared.entries.Entry.{Entry}
use Rattle.plain_file.specs.declared.pieces.Piece.{Piece}
use Rattle.plain_file.specs.Newest.{newest_at}
use Rattle.plain_file.specs.Runs.{ArePieces, AreRuns, IsPiece}
use Rattle.plain_file.specs.Sources.{source_at, source_of}
use Rattle.plain_machine.specs.Saying.{piece, w1, w2}

abbrev part : ℕ → ℕ → ℕ → ℕ → ℕ → Piece
part at len stamp writer physical = record { at = at; len = len; physical = physical; stamp = stamp; writer = writer }

-- a small piece is one, and goes on in another way than the next
is_piece : (at len stamp writer physical : ℕ) → 0 < len → at + len ≤ 100 → physical + len ≤ 100 → IsPiece (part at len stamp writer physical)
is_piece at len stamp writer physical some within logged =
    record { not_empty = some; within = omega (arith, within); in_log = omega (arith, logged) }

-- ---- one write

abbrev whole : ℕ → List Piece
whole stamp = part 0 4 stamp w1 0 ∷ []

whole_runs : (stamp : ℕ) → AreRuns (whole stamp)
whole_runs stamp = (is_piece 0 4 stamp w1 0 (omega arith) (omega arith) (omega arith), tt, tt)

pub one_piece : ArePieces (piece 0 4 10 w1 0 ∷ []) [] (whole 10)
one_piece = record { runs = whole_runs 10; shown = shown }
  where
    shown : (x : ℕ) → source_at (whole 10) x ≡ option_map (source_of x) (newest_at (piece 0 4 10 w1 0 ∷ []) [] x)
    shown zero = refl
    shown (suc zero) = refl
    shown (suc (suc zero)) = refl
    shown (suc (suc (suc zero))) = refl
    shown (suc (suc (suc (suc x)))) = grind (arith, nat_tests)

abbrev late : List Entry
late = piece 0 4 20 w1 0 ∷ piece 1 2 10 w2 0 ∷ []

pub late_piece : ArePieces late [] (whole 20)
late_piece = record { runs = whole_runs 20; shown = shown }
  where
    shown : (x : ℕ) → source_at (whole 20) x ≡ option_map (source_of x) (newest_at late [] x)
    shown zero = refl
    shown (suc zero) = refl
    shown (suc (suc zero)) = refl
    shown (suc (suc (suc zero))) = refl
    shown (suc (suc (suc (suc x)))) = grind (arith, nat_tests)

-- ---- two writes

abbrev three : ℕ → ℕ → List Piece
three writer physical = part 0 1 10 w1 0 ∷ part 1 2 11 writer physical ∷ part 3 1 10 w1 3 ∷ []

three_runs : (writer physical : ℕ) → physical ≤ 4 → AreRuns (three writer physical)
three_runs writer physical small = (
  is_piece 0 1 10 w1 0 (omega arith) (omega arith) (omega arith),
  (omega arith, λ j. grind (arith, j.stamps)),
  (
    is_piece 1 2 11 writer physical (omega arith) (omega arith) (omega (arith, small)),
    (omega arith, λ j. grind (arith, j.stamps)),
    (is_piece 3 1 10 w1 3 (omega arith) (omega arith) (omega arith), tt, tt),
  ),
)

-- of two writers
abbrev two : List Entry
two = piece 0 4 10 w1 0 ∷ piece 1 2 11 w2 0 ∷ []

pub three_pieces : ArePieces two [] (three w2 0)
three_pieces = record { runs = three_runs w2 0 (omega arith); shown = shown }
  where
    shown : (x : ℕ) → source_at (three w2 0) x ≡ option_map (source_of x) (newest_at two [] x)
    shown zero = refl
    shown (suc zero) = refl
    shown (suc (suc zero)) = refl
    shown (suc (suc (suc zero))) = refl
    shown (suc (suc (suc (suc x)))) = grind (arith, nat_tests)

-- of one writer
abbrev own : List Entry
own = piece 0 4 10 w1 0 ∷ piece 1 2 11 w1 4 ∷ []

pub own_pieces : ArePieces own [] (three w1 4)
own_pieces = record { runs = three_runs w1 4 (omega arith); shown = shown }
  where
    shown : (x : ℕ) → source_at (three w1 4) x ≡ option_map (source_of x) (newest_at own [] x)
    shown zero = refl
    shown (suc zero) = refl
    shown (suc (suc zero)) = refl
    shown (suc (suc (suc zero))) = refl
    shown (suc (suc (suc (suc x)))) = grind (arith, nat_tests)
