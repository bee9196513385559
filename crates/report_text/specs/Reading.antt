-- What reading a line from left to right gives. It counts only where the line prints so.
use Rattle.std.specs.Prelude.{◌≡◌, ℕ, ◌+◌, ◌*◌, ◌^◌, ◌==◌, ◌&&◌, nat_lt, nat_le, List, [], ◌∷◌, length, take, drop, position, codes, if◌then◌else◌, Bool, true, false, Option, Some, None, Result, Ok, Err}
use Rattle.std.specs.Result.{result_ok}
use Rattle.std.specs.List.{slice_split}
use Rattle.std.specs.Str.{bytes_eq}
use Rattle.std.specs.Str.Parse.{digits_value}
use Rattle.std.specs.Fmt.{decimal}
use Rattle.hex.specs.Hex.{decode_of, hex_digit_value}
use Rattle.plfs_types.specs.declared.entries.Entry.{Entry}
use Rattle.plfs_types.specs.declared.entries.Trunc.{Trunc}
use Rattle.plfs_types.specs.declared.entries.WriterCount.{WriterCount}
use Rattle.plfs_types.specs.declared.entries.ShareBytes.{ShareBytes}
use Rattle.report_text.specs.declared.trouble.Trouble.{Trouble}
use Rattle.report_text.specs.declared.trouble.Trouble.TheVariants.{Bad, NoMemory}

infixl 10 ◌>>=◌
abbrev pub ◌>>=◌ : {A B : Type 0} → Option A → (A → Option B) → Option B
(Some x) >>= f = f x
None >>= f = None

-- what a function returned, seen by view, is what reading gives, unless memory was refused
abbrev pub FailsAsText : {Y : Type 0} → Trouble → Option Y → Type 0
FailsAsText Bad read = read ≡ None
FailsAsText NoMemory read = Unit {0}

abbrev pub GivesAsText : {X Y : Type 0} → (X → Y) → Result X Trouble → Option Y → Type 0
GivesAsText view (Ok x) read = read ≡ Some (view x)
GivesAsText view (Err e) read = FailsAsText e read

-- what a function returned, seen by view, is this, unless memory was refused
abbrev pub OnlyGives : {X Y : Type 0} → (X → Y) → Result X Trouble → Y → Type 0
OnlyGives view (Ok x) y = view x ≡ y
OnlyGives view (Err Bad) y = ⊥
OnlyGives view (Err NoMemory) y = Unit {0}

-- what stands before the first such byte, and what stands behind it
unfoldable pub cut : ℕ → List ℕ → Option (List ℕ × List ℕ)
cut c bytes = do
  place ← position (λ b. b == c) bytes
  Some (take place bytes, drop (place + 1) bytes)

-- the number below the limit with this text
unfoldable pub number_below : ℕ → List ℕ → Option ℕ
number_below limit word =
    if nat_lt (digits_value 10 word) limit && bytes_eq word (decimal (digits_value 10 word)) then Some (digits_value 10 word) else None

unfoldable pub number_spelled : List ℕ → Option ℕ
number_spelled word = number_below (2 ^ 64) word

unfoldable pub wide_at : List ℕ → Option ℕ
wide_at word = number_below (2 ^ 128) word

-- a number and the bytes behind the space after it
unfoldable pub number_field : List ℕ → Option (ℕ × List ℕ)
number_field bytes = do
  parts ← cut 32 bytes
  number ← number_spelled parts.0
  Some (number, parts.1)

-- the bytes behind this word and a space
unfoldable pub behind_word : List ℕ → List ℕ → Option (List ℕ)
behind_word word bytes = do
  parts ← cut 32 bytes
  if bytes_eq parts.0 word then Some parts.1 else None

unfoldable pub pair_at : List ℕ → Option (ℕ × ℕ)
pair_at word = do
  parts ← cut 58 word
  first ← number_spelled parts.0
  second ← number_spelled parts.1
  Some (first, second)

unfoldable pub count_at : List ℕ → Option WriterCount
count_at word = do
  pair ← pair_at word
  Some (record { writer = pair.0; count = pair.1 })

unfoldable pub share_at : List ℕ → Option ShareBytes
share_at word = do
  pair ← pair_at word
  Some (record { writer = pair.0; bytes = pair.1 })

unfoldable pub trunc_at : List ℕ → Option Trunc
trunc_at word = do
  pair ← pair_at word
  Some (record { stamp = pair.0; size = pair.1 })

-- a number before such a byte, and what stands behind that
unfoldable pub number_before : ℕ → List ℕ → Option (ℕ × List ℕ)
number_before c bytes = do
  parts ← cut c bytes
  number ← number_spelled parts.0
  Some (number, parts.1)

unfoldable pub piece_at : List ℕ → Option Entry
piece_at word = do
  at ← number_before 43 word
  len ← number_before 61 at.1
  stamp ← number_before 46 len.1
  writer ← number_before 64 stamp.1
  physical ← number_spelled writer.1
  Some (record { at = at.0; len = len.0; physical = physical; stamp = stamp.0; writer = writer.0 })

unfoldable pub short_at : List ℕ → Option (List ℕ)
short_at word = if nat_le (length word) 96 then Some word else None

unfoldable pub all_at : {X : Type 0} → (List ℕ → Option X) → List (List ℕ) → Option (List X)
all_at read [] = Some []
all_at read (word ∷ words) = do
  item ← read word
  items ← all_at read words
  Some (item ∷ items)

-- the items between such bytes, or none at '-'
unfoldable pub list_at : {X : Type 0} → ℕ → (List ℕ → Option X) → List ℕ → Option (List X)
list_at c read word = if bytes_eq word (codes "-") then Some [] else all_at read (slice_split (λ b. b == c) word)

-- a list between commas before a space, and what stands behind that
unfoldable pub list_field : {X : Type 0} → (List ℕ → Option X) → List ℕ → Option (List X × List ℕ)
list_field read bytes = do
  parts ← cut 32 bytes
  items ← list_at 44 read parts.0
  Some (items, parts.1)

unfoldable pub stamp_spelled : List ℕ → Option (Option ℕ)
stamp_spelled word = if bytes_eq word (codes "-") then Some None else (number_spelled word >>= λ stamp. Some (Some stamp))

unfoldable pub content_at : List ℕ → Option (List ℕ)
content_at word = if bytes_eq word (codes "-") then Some [] else result_ok (decode_of word)

unfoldable pub yes_at : List ℕ → Option Bool
yes_at word = if bytes_eq word (codes "yes") then Some true else if bytes_eq word (codes "no") then Some false else None

-- the byte of two digits, and what stands behind them
unfoldable pub escape_at : List ℕ → Option (ℕ × List ℕ)
escape_at [] = None
escape_at (h ∷ []) = None
escape_at (h ∷ l ∷ rest) = do
  high ← hex_digit_value h
  low ← hex_digit_value l
  Some (high * 16 + low, rest)

-- a byte that stands for itself, or '%' and two digits; and what stands behind
unfoldable pub byte_at : ℕ → List ℕ → Option (ℕ × List ℕ)
byte_at b others = if b == 37 then escape_at others else Some (b, others)

-- a name, where '%' and two digits stand for a byte
unfoldable pub name_at : List ℕ → Option (List ℕ)
name_at [] = Some []
name_at (b ∷ []) = if b == 37 then None else Some (b ∷ [])
name_at (b ∷ h ∷ []) = if b == 37 then None else (name_at (h ∷ []) >>= λ name. Some (b ∷ name))
name_at (b ∷ h ∷ l ∷ rest) =
    if b == 37
    then (hex_digit_value h >>= λ high. hex_digit_value l >>= λ low. name_at rest >>= λ name. Some ((high * 16 + low) ∷ name))
    else (name_at (h ∷ l ∷ rest) >>= λ name. Some (b ∷ name))

unfoldable pub short_name_at : List ℕ → Option (List ℕ)
short_name_at text = do
  name ← name_at text
  short_at name

-- a folder before a '/', and a file; without a '/' the folder is empty
unfoldable pub parts_of_place : List ℕ → Option (List ℕ × List ℕ) → List ℕ × List ℕ
parts_of_place word None = ([], word)
parts_of_place word (Some parts) = parts

unfoldable pub place_at : List ℕ → Option (List ℕ × List ℕ)
place_at word = do
  folder ← short_name_at (parts_of_place word (cut 47 word)).0
  file ← short_name_at (parts_of_place word (cut 47 word)).1
  Some (folder, file)
