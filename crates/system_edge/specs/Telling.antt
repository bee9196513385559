-- What was written of damage, and what is remembered of it.
use Rattle.std.specs.Prelude.{ℕ, ◌+◌, ◌-◌, ◌==◌, Bool, ◌&&◌, List, [], ◌∷◌, ◌++◌, length, take, codes, false, if◌then◌else◌, true, nat_eq}
use Rattle.std.specs.List.{starts_with}
use Rattle.std.specs.Str.{is_utf8}
use Rattle.system_edge.specs.declared.said.Said.{Said}

-- a line of damage was written: among lines, or alone, in the place of a file
abbrev pub tells_damage : Said → Bool
tells_damage said = if said.is_of_damage then (if said.has_lines then true else nat_eq said.written (length said.line.items + 1)) else false

-- a line from its first space on, which stands behind its number
abbrev pub from_space : List ℕ → List ℕ
from_space [] = []
from_space (byte ∷ line) = if byte == 32 then byte ∷ line else from_space line

-- a line tells of damage: behind its number stands the word, and it is text
abbrev pub is_of_damage : List ℕ → Bool
is_of_damage line = starts_with nat_eq (from_space line) (codes " damaged ") && is_utf8 line

-- What is remembered: the first line of damage, or, where none was written yet, what was written of the last line.
pub record Memory : Type 0 where
  pub line : List ℕ
  pub is_of_damage : Bool

-- so much of a line was written, and no line of damage before it
abbrev pub begun : List ℕ → Memory
begun line = record { line = line; is_of_damage = false }

-- nothing of a line, as before the first one
abbrev pub nothing : Memory
nothing = begun []

-- of a line its first 1024 bytes are remembered
abbrev pub with_more : List ℕ → List ℕ → List ℕ
with_more line bytes = line ++ take (1024 - length line) bytes

-- at its end a line is forgotten, unless it tells of damage
abbrev pub at_end : List ℕ → Memory
at_end line = if is_of_damage line then record { line = line; is_of_damage = true } else nothing

-- one more byte of a line was written, or its line feed
abbrev pub after_byte : List ℕ → ℕ → Memory
after_byte line byte = if byte == 10 then at_end line else begun (with_more line (byte ∷ []))

-- what is remembered after these bytes, which change nothing once a line of damage was written
abbrev pub after_bytes : Memory → List ℕ → Memory
after_bytes memory [] = memory
after_bytes memory (byte ∷ bytes) = after_bytes (if memory.is_of_damage then memory else after_byte memory.line byte) bytes

-- what is remembered
abbrev pub memory_of : Said → Memory
memory_of said = record { line = said.line.items; is_of_damage = said.is_of_damage }
