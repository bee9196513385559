-- How bytes stand in lines, and a line in words.
use Rattle.std.specs.Prelude.{◌≡◌, ◌≢◌, ℕ, ◌==◌, ◌&&◌, ◌||◌, nat_le, Bool, true, false, All, List, [], ◌∷◌, ◌++◌, Option, Some, None}
use Rattle.std.specs.List.{flat_map, join_with_byte, slice_split}

-- this byte is not among these
abbrev pub Lacks : ℕ → List ℕ → Type 0
Lacks byte bytes = All (λ b. b ≢ byte) bytes

-- lines, each ended by a line feed
abbrev pub ended : List (List ℕ) → List ℕ
ended lines = flat_map (λ line. line ++ 10 ∷ []) lines

-- the line is these words, with one space between each two; where spaces stand side by side or at an end, there is an empty word
pub record AreWords (line : List ℕ) (words : List (List ℕ)) : Type 0 where
  pub some : words ≢ []
  pub apart : All (Lacks 32) words
  pub joined : line ≡ join_with_byte 32 words

-- what stands between these bytes
abbrev pub parts_of : ℕ → List ℕ → List (List ℕ)
parts_of byte bytes = slice_split (λ b. b == byte) bytes

-- the parts of what is left, and none where nothing is left
abbrev pub parts_behind : ℕ → Option (List ℕ) → List (List ℕ)
parts_behind byte None = []
parts_behind byte (Some rest) = parts_of byte rest

-- the words of a line
abbrev pub words_of : List ℕ → List (List ℕ)
words_of line = parts_of 32 line

-- there is nothing
abbrev pub is_empty : List ℕ → Bool
is_empty [] = true
is_empty (b ∷ bytes) = false

-- one of 0-9 and a-f
abbrev pub is_lower_digit : ℕ → Bool
is_lower_digit b = (nat_le 48 b && nat_le b 57) || (nat_le 97 b && nat_le b 102)
