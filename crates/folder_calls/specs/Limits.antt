-- How many files may be open at once.
use Rattle.std.specs.Prelude.{◌≡◌, ◌==◌, ◌<◌, ◌^◌, ◌-◌, ◌/◌, ◌⊎◌, ℕ, min, max, not, length, drop, codes, List, Option, None, Some, nat_eq}
use Rattle.std.specs.List.{find, slice_split, starts_with}
use Rattle.std.specs.Fmt.{decimal}

-- the first line of a text that begins so
abbrev pub line_of : List ℕ → List ℕ → Option (List ℕ)
line_of start text = find (λ line. starts_with nat_eq line start) (slice_split (λ b. b == 10) text)

-- the first word of a line
abbrev pub first_word : List ℕ → Option (List ℕ)
first_word line = find (λ word. not (length word == 0)) (slice_split (λ b. b == 32) line)

-- the first word of a line behind so many bytes, where there is a line
abbrev pub word_behind : ℕ → Option (List ℕ) → Option (List ℕ)
word_behind count None = None
word_behind count (Some line) = first_word (drop count line)

-- the word that tells how many files a process may have open, in the list of its limits
abbrev pub limit_word : List ℕ → Option (List ℕ)
limit_word limits = word_behind 14 (line_of (codes "Max open files") limits)

-- so many files by this list of limits, or 576 where it has no such number
abbrev pub IsLimitBy : List ℕ → ℕ → Type 0
IsLimitBy limits limit = (limit_word limits ≡ Some (decimal limit)) ⊎ ((limit ≡ 576) × ((n : ℕ) → n < 2 ^ 64 → limit_word limits ≡ Some (decimal n) → ⊥))

-- an equal share of half of what the process may have open, but for 64 that are left to the rest of it: one at least, and at most 2^16
abbrev pub share_of : ℕ → ℕ → ℕ
share_of limit stores = max (min ((limit - 64) / 2 / max stores 1) 65536) 1
