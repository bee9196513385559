-- What becomes of a file, and of the first bytes that a loss of power keeps of it.
use Rattle.std.specs.Prelude.{ℕ, ◌+◌, List, [], ◌∷◌, length, take, ◌==◌, min, if◌then◌else◌}
use Rattle.plfs_types.specs.Bytes.{overwritten}
use Rattle.store_api.specs.declared.tree.File.{File}
use Rattle.store_api.specs.Step.{Name}

-- how many first bytes two files have in common
abbrev pub common : List ℕ → List ℕ → ℕ
common [] ys = 0
common (x ∷ xs) [] = 0
common (x ∷ xs) (y ∷ ys) = if x == y then common xs ys + 1 else 0

-- of the kept bytes those before the first that changed
abbrev pub kept_after : ℕ → List ℕ → List ℕ → ℕ
kept_after kept old new = min kept (common old new)

-- a file that was just made: nothing is kept of it, not even by a later write
abbrev pub empty_file : Name → Name → File
empty_file folder name = record { path = record { folder = folder; file = name }; bytes = []; kept = 0 }

-- the bytes are written over the file's from a place on
abbrev pub written : File → ℕ → List ℕ → File
written file at bytes =
    record file { bytes = overwritten file.bytes at bytes; kept = kept_after file.kept file.bytes (overwritten file.bytes at bytes) }

-- the file is cut to its first bytes: as many of them are kept as were
abbrev pub shortened : File → ℕ → File
shortened file len = record file { bytes = take len file.bytes; kept = min file.kept len }

-- the file is synced: all that it has is kept
abbrev pub synced : File → File
synced file = record file { kept = length file.bytes }
