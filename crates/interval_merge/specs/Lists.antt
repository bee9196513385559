-- Many lists of pieces, and of the entries that they are the pieces of.
use Rattle.std.specs.Prelude.{ℕ, List, [], ◌∷◌, ◌++◌, Option, None}
use Rattle.plfs_types.specs.declared.entries.Entry.{Entry}
use Rattle.plain_file.specs.declared.pieces.Piece.{Piece}
use Rattle.plain_file.specs.Sources.{Source, source_at, newer_source}
use Rattle.plain_file.specs.Runs.{ArePieces}

-- the newest of what the lists say of byte x
abbrev pub newest_source : List (List Piece) → ℕ → Option Source
newest_source [] x = None
newest_source (pieces ∷ lists) x = newer_source (source_at pieces x) (newest_source lists x)

-- all lists of entries as one
abbrev pub joined : List (List Entry) → List Entry
joined [] = []
joined (entries ∷ lists) = entries ++ joined lists

-- each list of pieces is that of the list of entries at its place
abbrev pub ArePiecesOfEach : List (List Entry) → List (List Piece) → Type 0
ArePiecesOfEach [] [] = Unit {0}
ArePiecesOfEach [] (pieces ∷ lists) = ⊥
ArePiecesOfEach (entries ∷ more) [] = ⊥
ArePiecesOfEach (entries ∷ more) (pieces ∷ lists) = ArePieces entries [] pieces × ArePiecesOfEach more lists
