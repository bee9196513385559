-- Numbers in names.
use Rattle.std.specs.Prelude.{◌≡◌, ℕ, ◌<◌, ◌^◌, ◌≢◌, List, ◌∷◌, map, length, slice_index}
use Rattle.std.specs.List.{join_with_byte, AllByRecursion}
use Rattle.std.specs.Fmt.{decimal}

-- the decimal forms of numbers, with a dot between each two
abbrev pub dotted : List ℕ → List ℕ
dotted numbers = join_with_byte 46 (map decimal numbers)

-- the decimal form behind a dot
abbrev pub behind_dot : ℕ → List ℕ
behind_dot number = 46 ∷ decimal number

-- no plus in front, and no zero before further bytes
abbrev pub BeginsPlain : List ℕ → Type 0
BeginsPlain text = (slice_index text 0 ≢ 43) × (slice_index text 0 ≡ 48 → length text ≡ 1)

-- the text is the decimal form of a number of 64 bits
pub record IsNumber (text : List ℕ) (number : ℕ) : Type 0 where
  pub fits : number < 2 ^ 64
  pub printed : text ≡ decimal number

-- the text is the decimal forms of such numbers, with a dot between each two
pub record AreNumbers (text : List ℕ) (numbers : List ℕ) : Type 0 where
  pub fit : AllByRecursion (λ n. n < 2 ^ 64) numbers
  pub printed : text ≡ dotted numbers
