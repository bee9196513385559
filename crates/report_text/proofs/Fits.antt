-- What is read within a line has its widths.
use Rattle.std.proofs.Common.{◌≡◌, ℕ, suc, ◌+◌, ◌*◌, ◌/◌, ◌%◌, ◌<◌, ◌≤◌, ◌^◌, ◌==◌, ◌&&◌, ◌⊎◌, inl, inr, nat_lt, nat_le, Bool, true, false, cond, List, [], ◌∷◌, ◌++◌, length, codes, Option, Some, None, Result, Ok, Err, refl, sym, subst, ◌∙◌, append_assoc, arith}
use Rattle.std.specs.Prelude.{slice_index, IfSome}
use Rattle.std.specs.Result.{result_ok}
use Rattle.std.specs.List.{AllByRecursion, slice_split}
use Rattle.std.specs.Str.{bytes_eq}
use Rattle.std.specs.Str.Parse.{digits_value}
use Rattle.std.specs.Fmt.{decimal}
use Rattle.std.proofs.lemmas.Bool.{cases_lt}
use Rattle.std.proofs.lemmas.Bool.Decides.{nat_tests}
use Rattle.std.proofs.lemmas.List.{get_or_past}
use Rattle.hex.specs.declared.error.FromHexError.{FromHexError}
use Rattle.hex.specs.Hex.{IsBytes, hex_digit_value, upper_digits, decode_of}
use Rattle.hex.proofs.HexLemmas.{decode_of-ok}
use Rattle.plfs_types.specs.Names.{is_name_byte}
use Rattle.report_text.specs.Items.{escaped, escaped_byte, place_text}
use Rattle.report_text.specs.Widths.{Is64, IsCount, IsShare, IsTrunc, EntryFits, AreBytes, IsShortName}
use Rattle.report_text.specs.Reading.{◌>>=◌, cut, number_below, number_spelled, wide_at, number_field, number_before, pair_at, count_at, share_at, trunc_at, piece_at, short_at, all_at, list_at, list_field, stamp_spelled, content_at, name_at, byte_at, short_name_at, parts_of_place, place_at}
use Rattle.report_text.proofs.Cuts.{Avoids, cut-at, cut-missing}
use Rattle.report_text.proofs.Loops.{by_byte, before_others}
use Rattle.report_text.proofs.Texts.{by_append, weaker, upper_above, name_byte_no_escape}

-- ---- one reading after the other

pub from_some : {X : Type 0} (P : X → Type 0) (read : Option X) (x : X) → IfSome read P → read ≡ Some x → P x
from_some P read x h is = rw is at h

pub then_fits : {A B : Type 0} (P : A → Type 0) (Q : B → Type 0) (first : Option A) (next : A → Option B) → IfSome first P → ((x : A) → P x → IfSome (next x) Q) → IfSome (first >>= next) Q
then_fits P Q (Some x) next h k = k x h
then_fits P Q None next h k = tt

-- whatever was read first
pub then_any : {A B : Type 0} (Q : B → Type 0) (first : Option A) (next : A → Option B) → ((x : A) → IfSome (next x) Q) → IfSome (first >>= next) Q
then_any Q (Some x) next k = k x
then_any Q None next k = tt

pub chosen_fits : {X : Type 0} (Q : X → Type 0) (b : Bool) (x y : Option X) → (b ≡ true → IfSome x Q) → (b ≡ false → IfSome y Q) → IfSome (cond b x y) Q
chosen_fits Q true x y h k = h refl
chosen_fits Q false x y h k = k refl

-- ---- numbers

number_below_fits : (limit : ℕ) (word : List ℕ) → IfSome (number_below limit word) (λ n. n < limit)
unfolding number_below
number_below_fits limit word =
    chosen_fits (λ n. n < limit) (nat_lt (digits_value 10 word) limit && bytes_eq word (decimal (digits_value 10 word))) (Some (digits_value 10 word)) None (λ both.
    let fits : digits_value 10 word < limit = grind (arith, nat_tests, both) in
    fits) (λ _. tt)

pub number_fits : (word : List ℕ) → IfSome (number_spelled word) Is64
unfolding number_spelled
number_fits word = number_below_fits (2 ^ 64) word

abbrev pub IsWide : ℕ → Type 0
IsWide n = n < 2 ^ 128

pub wide_fits : (word : List ℕ) → IfSome (wide_at word) IsWide
unfolding wide_at
wide_fits word = number_below_fits (2 ^ 128) word

-- a number before what is left
abbrev pub FrontFits : ℕ × List ℕ → Type 0
FrontFits p = Is64 p.0

pub number_field_fits : (bytes : List ℕ) → IfSome (number_field bytes) FrontFits
unfolding number_field
number_field_fits bytes = then_any FrontFits (cut 32 bytes) _ (λ parts. then_fits Is64 FrontFits (number_spelled parts.0) _ (number_fits parts.0) (λ n fits. fits))

number_before_fits : (c : ℕ) (bytes : List ℕ) → IfSome (number_before c bytes) FrontFits
unfolding number_before
number_before_fits c bytes = then_any FrontFits (cut c bytes) _ (λ parts. then_fits Is64 FrontFits (number_spelled parts.0) _ (number_fits parts.0) (λ n fits. fits))

-- ---- items

abbrev PairFits : ℕ × ℕ → Type 0
PairFits p = Is64 p.0 × Is64 p.1

pair_fits : (word : List ℕ) → IfSome (pair_at word) PairFits
unfolding pair_at
pair_fits word = then_any PairFits (cut 58 word) _ (λ parts.
    then_fits Is64 PairFits (number_spelled parts.0) _ (number_fits parts.0) (λ a a_fits.
    then_fits Is64 PairFits (number_spelled parts.1) _ (number_fits parts.1) (λ b b_fits. (a_fits, b_fits))))

pub count_fits : (word : List ℕ) → IfSome (count_at word) IsCount
unfolding count_at
count_fits word = then_fits PairFits IsCount (pair_at word) _ (pair_fits word) (λ pair fits. fits)

pub share_fits : (word : List ℕ) → IfSome (share_at word) IsShare
unfolding share_at
share_fits word = then_fits PairFits IsShare (pair_at word) _ (pair_fits word) (λ pair fits. fits)

pub trunc_fits : (word : List ℕ) → IfSome (trunc_at word) IsTrunc
unfolding trunc_at
trunc_fits word = then_fits PairFits IsTrunc (pair_at word) _ (pair_fits word) (λ pair fits. fits)

pub piece_fits : (word : List ℕ) → IfSome (piece_at word) EntryFits
unfolding piece_at
piece_fits word =
    then_fits FrontFits EntryFits (number_before 43 word) _ (number_before_fits 43 word) (λ at at_fits.
    then_fits FrontFits EntryFits (number_before 61 at.1) _ (number_before_fits 61 at.1) (λ len len_fits.
    then_fits FrontFits EntryFits (number_before 46 len.1) _ (number_before_fits 46 len.1) (λ stamp stamp_fits.
    then_fits FrontFits EntryFits (number_before 64 stamp.1) _ (number_before_fits 64 stamp.1) (λ writer writer_fits.
    then_fits Is64 EntryFits (number_spelled writer.1) _ (number_fits writer.1) (λ physical physical_fits. (at_fits, len_fits, physical_fits, stamp_fits, writer_fits))))))

-- ---- lists

abbrev pub EachFits : {X : Type 0} → (X → Type 0) → List X → Type 0
EachFits P xs = AllByRecursion P xs

-- such a list before what is left
abbrev pub FrontEachFits : {X : Type 0} → (X → Type 0) → List X × List ℕ → Type 0
FrontEachFits P p = AllByRecursion P p.0

module _ {X : Type 0} (P : X → Type 0) (read : List ℕ → Option X) (each : (word : List ℕ) → IfSome (read word) P) where
  all_fit : (words : List (List ℕ)) → IfSome (all_at read words) (EachFits P)
  unfolding all_at
  all_fit [] = tt
  all_fit (word ∷ words) =
      then_fits P (EachFits P) (read word) _ (each word) (λ x x_fits.
      then_fits (EachFits P) (EachFits P) (all_at read words) _ (all_fit words) (λ xs xs_fit. (x_fits, xs_fit)))

  pub list_fits : (c : ℕ) (word : List ℕ) → IfSome (list_at c read word) (EachFits P)
  unfolding list_at
  list_fits c word =
      chosen_fits (EachFits P) (bytes_eq word (codes "-")) (Some []) (all_at read (slice_split (λ b. b == c) word)) (λ _. tt) (λ _. all_fit (slice_split (λ b. b == c) word))

  pub list_field_fits : (bytes : List ℕ) → IfSome (list_field read bytes) (FrontEachFits P)
  unfolding list_field
  list_field_fits bytes = then_any (FrontEachFits P) (cut 32 bytes) _ (λ parts. then_fits (EachFits P) (FrontEachFits P) (list_at 44 read parts.0) _ (list_fits 44 parts.0) (λ items fit. fit))

-- ---- stamps and contents

abbrev pub StampFits : Option ℕ → Type 0
StampFits stamp = IfSome stamp Is64

pub stamp_fits : (word : List ℕ) → IfSome (stamp_spelled word) StampFits
unfolding stamp_spelled
stamp_fits word =
    chosen_fits StampFits (bytes_eq word (codes "-")) (Some None) (number_spelled word >>= λ stamp. Some (Some stamp)) (λ _. tt) (λ _. then_fits Is64 StampFits (number_spelled word) (λ stamp. Some (Some stamp)) (number_fits word) (λ n fits. fits))

bytes_by_recursion : (bytes : List ℕ) → IsBytes bytes → AreBytes bytes
bytes_by_recursion [] h = tt
bytes_by_recursion (b ∷ bytes) h = (h 0, bytes_by_recursion bytes (λ i. h (suc i)))

decoded_fits : (word : List ℕ) (read : Result (List ℕ) FromHexError) → decode_of word ≡ read → IfSome (result_ok read) AreBytes
decoded_fits word (Ok bytes) is = bytes_by_recursion bytes (decode_of-ok word bytes is).3
decoded_fits word (Err e) is = tt

pub content_fits : (word : List ℕ) → IfSome (content_at word) AreBytes
unfolding content_at
content_fits word = chosen_fits AreBytes (bytes_eq word (codes "-")) (Some []) (result_ok (decode_of word)) (λ _. tt) (λ _. decoded_fits word (decode_of word) refl)

-- ---- the bytes of an escaped name, whatever it is

abbrev IsApart : ℕ → Type 0
IsApart b = ((b == 32) ≡ false) × ((b == 47) ≡ false)

apart_from : (b : ℕ) → (47 < b) ⊎ (b ≡ 0) → IsApart b
apart_from b (inl above) = (grind (arith, nat_tests), grind (arith, nat_tests))
apart_from b (inr none) = (grind (arith, nat_tests), grind (arith, nat_tests))

digit_apart : (d : ℕ) → IsApart (slice_index upper_digits d)
digit_apart d = apart_from (slice_index upper_digits d) (elim (cases_lt d 16) [ inl low ↦ inl (upper_above d low) | inr past ↦ inr (get_or_past upper_digits d 0 past) ])

name_byte_apart : (b : ℕ) → is_name_byte b ≡ true → IsApart b
name_byte_apart b h = (grind (arith, nat_tests), grind (arith, nat_tests))

escaped_byte_apart : (b : ℕ) → AllByRecursion IsApart (escaped_byte b)
escaped_byte_apart b =
    elim (is_name_byte b) as (λ v. is_name_byte b ≡ v → AllByRecursion IsApart (cond v (b ∷ []) (37 ∷ slice_index upper_digits (b / 16) ∷ slice_index upper_digits (b % 16) ∷ []))) [
      | true ↦ λ e. (name_byte_apart b e, tt)
      | false ↦ λ e. ((refl, refl), (digit_apart (b / 16), (digit_apart (b % 16), tt)))
    ] refl

escaped_apart : (name : List ℕ) → AllByRecursion IsApart (escaped name)
escaped_apart [] = tt
escaped_apart (b ∷ name) = by_append IsApart (escaped_byte b) (escaped name) (escaped_byte_apart b) (escaped_apart name)

no_space : (name : List ℕ) → Avoids 32 (escaped name)
no_space name = weaker IsApart (λ b. (b == 32) ≡ false) (λ b apart. apart.0) (escaped name) (escaped_apart name)

no_slash : (name : List ℕ) → Avoids 47 (escaped name)
no_slash name = weaker IsApart (λ b. (b == 47) ≡ false) (λ b apart. apart.1) (escaped name) (escaped_apart name)

pub place_no_space : (folder file : List ℕ) → Avoids 32 (place_text folder file)
place_no_space [] file = no_space file
place_no_space (b ∷ bs) file =
    by_append (λ x. (x == 32) ≡ false) (escaped (b ∷ bs) ++ codes "/") (escaped file)
    (by_append (λ x. (x == 32) ≡ false) (escaped (b ∷ bs)) (codes "/") (no_space (b ∷ bs)) (refl, tt))
    (no_space file)

-- ---- names

abbrev IsSmall : ℕ → Type 0
IsSmall v = v < 16

small_digit : (c v : ℕ) → hex_digit_value c ≡ Some v → v < 16
small_digit c v e = grind (arith)

digit_fits : (c : ℕ) (read : Option ℕ) → hex_digit_value c ≡ read → IfSome read IsSmall
digit_fits c (Some v) is = small_digit c v is
digit_fits c None is = tt

name_byte_small : (b : ℕ) → is_name_byte b ≡ true → b < 256
name_byte_small b h = grind (arith, nat_tests)

-- a byte of a name stands for itself
itself_fits : (b : ℕ) (rest : List ℕ) → is_name_byte b ≡ true → IfSome (name_at rest) AreBytes → IfSome (name_at (b ∷ rest)) AreBytes
unfolding byte_at
itself_fits b rest plain h =
    let read : name_at (b ∷ rest) ≡ before_others (b, rest) = by_byte b rest ∙ rw (name_byte_no_escape b plain) refl in
    subst (λ (o : Option (List ℕ)). IfSome o AreBytes) (sym read) (then_fits AreBytes AreBytes (name_at rest) (λ name. Some (b ∷ name)) h (λ name fits. (name_byte_small b plain, fits)))

-- two digits stand for a byte
escape_fits : (h l : ℕ) (rest : List ℕ) → IfSome (name_at rest) AreBytes → IfSome (name_at (37 ∷ h ∷ l ∷ rest)) AreBytes
unfolding name_at
escape_fits h l rest k =
    then_fits IsSmall AreBytes (hex_digit_value h) _ (digit_fits h (hex_digit_value h) refl) (λ high high_small.
    then_fits IsSmall AreBytes (hex_digit_value l) _ (digit_fits l (hex_digit_value l) refl) (λ low low_small.
    then_fits AreBytes AreBytes (name_at rest) _ k (λ name fits.
    let byte : high * 16 + low < 256 = omega arith in
    (byte, fits))))

byte_fits : (b : ℕ) (rest : List ℕ) → IfSome (name_at rest) AreBytes → IfSome (name_at (escaped_byte b ++ rest)) AreBytes
byte_fits b rest h =
    elim (is_name_byte b) as (λ v. is_name_byte b ≡ v → IfSome (name_at (cond v (b ∷ []) (37 ∷ slice_index upper_digits (b / 16) ∷ slice_index upper_digits (b % 16) ∷ []) ++ rest)) AreBytes) [
      | true ↦ λ e. itself_fits b rest e h
      | false ↦ λ e. escape_fits (slice_index upper_digits (b / 16)) (slice_index upper_digits (b % 16)) rest h
    ] refl

escaped_fits : (name : List ℕ) → IfSome (name_at (escaped name)) AreBytes
unfolding name_at
escaped_fits [] = tt
escaped_fits (b ∷ name) = byte_fits b (escaped name) (escaped_fits name)

short_fits : (name : List ℕ) → AreBytes name → IfSome (short_at name) IsShortName
unfolding short_at
short_fits name bytes =
    chosen_fits IsShortName (nat_le (length name) 96) (Some name) None (λ short.
    let fits : length name ≤ 96 = grind (arith, nat_tests, short) in
    (bytes, fits)) (λ _. tt)

short_name_fits : (name : List ℕ) → IfSome (short_name_at (escaped name)) IsShortName
unfolding short_name_at
short_name_fits name = then_fits AreBytes IsShortName (name_at (escaped name)) _ (escaped_fits name) (λ read bytes. short_fits read bytes)

abbrev pub PlaceFits : List ℕ × List ℕ → Type 0
PlaceFits p = IsShortName p.0 × IsShortName p.1

both_fit : (folder file : List ℕ) → IfSome (short_name_at (escaped folder) >>= λ a. short_name_at (escaped file) >>= λ b. Some (a, b)) PlaceFits
both_fit folder file =
    then_fits IsShortName PlaceFits (short_name_at (escaped folder)) _ (short_name_fits folder) (λ a a_fits.
    then_fits IsShortName PlaceFits (short_name_at (escaped file)) _ (short_name_fits file) (λ b b_fits. (a_fits, b_fits)))

pub place_fits : (folder file : List ℕ) → IfSome (place_at (place_text folder file)) PlaceFits
unfolding place_at parts_of_place
place_fits [] file = rw (cut-missing 47 (escaped file) (no_slash file)) (both_fit [] file)
place_fits (b ∷ bs) file =
    let regrouped : place_text (b ∷ bs) file ≡ escaped (b ∷ bs) ++ 47 ∷ escaped file = append_assoc (escaped (b ∷ bs)) (codes "/") (escaped file) in
    rw (regrouped, cut-at 47 (escaped (b ∷ bs)) (escaped file) (no_slash (b ∷ bs))) (both_fit (b ∷ bs) file)
