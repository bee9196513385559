-- The bytes that a script writes or compares.
use Rattle.std.specs.Prelude.{ℕ, ◌+◌, ◌%◌, ◌^◌, ◌-◌, ◌==◌, ◌≡◌, ◌≤◌, min, if◌then◌else◌, List, [], ◌∷◌, length, map, replicate, take, drop, Option, Some, None}
use Rattle.std.specs.List.{range_with_len}
use Rattle.script_lang.specs.declared.script.Data.{Data}
use Rattle.script_lang.specs.declared.script.Data.TheVariants.{Hex, Text, Fill, Ramp}

-- byte j of a ramp
abbrev pub ramp_byte : ℕ → ℕ → ℕ
ramp_byte first j = (first + j) % 256

-- how many bytes there are
abbrev pub length_of : Data → ℕ
length_of (Hex bytes) = length bytes
length_of (Text bytes) = length bytes
length_of (Fill len byte) = len
length_of (Ramp len first) = len

abbrev pub bytes_of : Data → List ℕ
bytes_of (Hex bytes) = bytes
bytes_of (Text bytes) = bytes
bytes_of (Fill len byte) = replicate len byte
bytes_of (Ramp len first) = map (ramp_byte first) (range_with_len 0 len)

-- the first place, counted from this one on, where what was read differs from what is wanted, or has ended
abbrev pub first_difference : ℕ → List ℕ → List ℕ → Option ℕ
first_difference place [] found = None
first_difference place (b ∷ wanted) [] = Some place
first_difference place (b ∷ wanted) (c ∷ found) = if b == c then first_difference (place + 1) wanted found else Some place

-- so many bytes are there, and each is the one that stands so many places before it
abbrev pub Repeats : ℕ → ℕ → List ℕ → Type 0
Repeats len period found = (len ≤ length found) × (take (len - period) (drop period found) ≡ take (len - period) found)

-- so many bytes past a place
abbrev pub place_past : ℕ → ℕ → ℕ
place_past at j = min (at + j) (2 ^ 64 - 1)
