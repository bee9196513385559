-- How many entries end within a log.
use Rattle.std.specs.Prelude.{ℕ, ◌+◌, List, [], ◌∷◌, nat_le, if◌then◌else◌}
use Rattle.plfs_types.specs.declared.entries.Entry.{Entry}

-- how many of the first entries end within so many bytes of a log, where so many are those of the entries before
abbrev pub fitting : ℕ → ℕ → List Entry → ℕ
fitting log before [] = 0
fitting log before (e ∷ es) = if nat_le (before + e.len) log then fitting log (before + e.len) es + 1 else 0
