-- What was printed within a line is read again.
use Rattle.std.proofs.Common.{◌≡◌, ℕ, zero, suc, ◌+◌, ◌*◌, ◌/◌, ◌%◌, ◌<◌, ◌≤◌, ◌==◌, Bool, true, false, cond, nat_le, List, [], ◌∷◌, ◌++◌, length, map, codes, Option, Some, None, refl, ◌∙◌, arith, append_assoc}
use Rattle.std.specs.Prelude.{slice_index, IfSome, All}
use Rattle.std.specs.List.{AllByRecursion, join_with_byte, slice_split}
use Rattle.std.specs.Fmt.{decimal}
use Rattle.std.proofs.lemmas.Bool.Decides.{nat_tests}
use Rattle.hex.specs.Hex.{IsBytes, upper_digits, encode_lower}
use Rattle.hex.proofs.HexLemmas.{IsDigits-upper_digits, decode_of-encode_lower}
use Rattle.plfs_types.specs.declared.entries.Entry.{Entry}
use Rattle.plfs_types.specs.declared.entries.Trunc.{Trunc}
use Rattle.plfs_types.specs.declared.entries.WriterCount.{WriterCount}
use Rattle.plfs_types.specs.declared.entries.ShareBytes.{ShareBytes}
use Rattle.plfs_types.specs.Names.{is_name_byte, IsLogicalName}
use Rattle.report_text.specs.Items.{pair_text, count_text, share_text, trunc_text, piece_text, list_text, stamp_text, yes_or_no, escaped, escaped_byte, place_text}
use Rattle.report_text.specs.Words.{content_text}
use Rattle.report_text.specs.Widths.{Is64, IsCount, IsShare, IsTrunc, EntryFits, AreBytes, IsShortName}
use Rattle.report_text.specs.Reading.{number_spelled, number_field, number_before, behind_word, pair_at, count_at, share_at, trunc_at, piece_at, short_at, all_at, list_at, list_field, stamp_spelled, content_at, yes_at, escape_at, byte_at, name_at, short_name_at, parts_of_place, place_at}
use Rattle.report_text.proofs.Numbers.{number_at-some, bytes_eq-same}
use Rattle.report_text.proofs.Cuts.{Avoids, cut-at, cut-missing, cut-some, cut-none}
use Rattle.report_text.proofs.Loops.{by_byte, before_others}
use Rattle.report_text.proofs.Texts.{by_append, weaker, by_recursion, Above, avoids_below, lower, NoDash, NoDash-append, not_dash, number_above, number_avoids_low, number_avoids_high, number_no_dash, content_no_dash, IsPlain, name_byte_no_escape, escaped_plain, logical_above, logical_no_dash}

-- ---- fields

pub number_field_again : (n : ℕ) (rest : List ℕ) → Is64 n → number_field (decimal n ++ 32 ∷ rest) ≡ Some (n, rest)
unfolding number_field
number_field_again n rest small = rw (cut-at 32 (decimal n) rest (number_avoids_low 32 n (omega arith) (omega arith)), number_at-some n (decimal n) small refl) refl

number_before_again : (c n : ℕ) (rest : List ℕ) → Avoids c (decimal n) → Is64 n → number_before c (decimal n ++ c ∷ rest) ≡ Some (n, rest)
unfolding number_before
number_before_again c n rest avoids small = rw (cut-at c (decimal n) rest avoids, number_at-some n (decimal n) small refl) refl

pub behind_word_again : (word rest : List ℕ) → Avoids 32 word → behind_word word (word ++ 32 ∷ rest) ≡ Some rest
unfolding behind_word
behind_word_again word rest avoids = rw (cut-at 32 word rest avoids, bytes_eq-same word) refl

-- ---- items

pair_again : (a b : ℕ) → Is64 a → Is64 b → pair_at (pair_text a b) ≡ Some (a, b)
unfolding pair_at
pair_again a b a_fits b_fits =
    let regrouped : pair_text a b ≡ decimal a ++ 58 ∷ decimal b = append_assoc (decimal a) (codes ":") (decimal b) in
    rw (regrouped, cut-at 58 (decimal a) (decimal b) (number_avoids_high 58 a (omega arith) (omega arith)), number_at-some a (decimal a) a_fits refl, number_at-some b (decimal b) b_fits refl) refl

count_again : (c : WriterCount) → IsCount c → count_at (count_text c) ≡ Some c
unfolding count_at
count_again c h = rw (pair_again c.writer c.count h.0 h.1) refl

share_again : (s : ShareBytes) → IsShare s → share_at (share_text s) ≡ Some s
unfolding share_at
share_again s h = rw (pair_again s.writer s.bytes h.0 h.1) refl

trunc_again : (t : Trunc) → IsTrunc t → trunc_at (trunc_text t) ≡ Some t
unfolding trunc_at
trunc_again t h = rw (pair_again t.stamp t.size h.0 h.1) refl

piece_again : (e : Entry) → EntryFits e → piece_at (piece_text e) ≡ Some e
unfolding piece_at
piece_again e h =
    let regrouped : piece_text e ≡ decimal e.at ++ 43 ∷ (decimal e.len ++ 61 ∷ (decimal e.stamp ++ 46 ∷ (decimal e.writer ++ 64 ∷ decimal e.physical))) = simp append_assoc in
    rw (
      regrouped,
      number_before_again 43 e.at (decimal e.len ++ 61 ∷ (decimal e.stamp ++ 46 ∷ (decimal e.writer ++ 64 ∷ decimal e.physical))) (number_avoids_low 43 e.at (omega arith) (omega arith)) h.0,
      number_before_again 61 e.len (decimal e.stamp ++ 46 ∷ (decimal e.writer ++ 64 ∷ decimal e.physical)) (number_avoids_high 61 e.len (omega arith) (omega arith)) h.1,
      number_before_again 46 e.stamp (decimal e.writer ++ 64 ∷ decimal e.physical) (number_avoids_low 46 e.stamp (omega arith) (omega arith)) h.3,
      number_before_again 64 e.writer (decimal e.physical) (number_avoids_high 64 e.writer (omega arith) (omega arith)) h.4,
      number_at-some e.physical (decimal e.physical) h.2 refl,
    ) refl

-- ---- the bytes of items

pair_above : (a b : ℕ) → Is64 a → Is64 b → Above 47 (pair_text a b)
pair_above a b a_fits b_fits =
    by_append (λ x. 47 < x) (decimal a ++ codes ":") (decimal b) (by_append (λ x. 47 < x) (decimal a) (codes ":") (number_above a (omega arith)) (omega arith, tt)) (number_above b (omega arith))

pair_no_dash : (a b : ℕ) → Is64 a → NoDash (pair_text a b)
pair_no_dash a b a_fits = NoDash-append (decimal a ++ codes ":") (decimal b) (NoDash-append (decimal a) (codes ":") (number_no_dash a a_fits))

pub piece_above : (e : Entry) → EntryFits e → Above 42 (piece_text e)
piece_above e h =
    let P : ℕ → Type 0 = λ x. 42 < x in
    let number : (n : ℕ) → Is64 n → Above 42 (decimal n) = λ n small. lower 42 47 (decimal n) (omega arith) (number_above n (omega arith)) in
    by_append P _ (decimal e.physical) (by_append P _ (codes "@") (by_append P _ (decimal e.writer) (by_append P _ (codes ".") (by_append P _ (decimal e.stamp) (by_append P _ (codes "=") (by_append P _ (decimal e.len) (by_append P (decimal e.at) (codes "+") (number e.at h.0) (omega arith, tt)) (number e.len h.1)) (omega arith, tt)) (number e.stamp h.3)) (omega arith, tt)) (number e.writer h.4)) (omega arith, tt)) (number e.physical h.2)

piece_no_dash : (e : Entry) → EntryFits e → NoDash (piece_text e)
piece_no_dash e h = NoDash-append _ (decimal e.physical) (NoDash-append _ (codes "@") (NoDash-append _ (decimal e.writer) (NoDash-append _ (codes ".") (NoDash-append _ (decimal e.stamp) (NoDash-append _ (codes "=") (NoDash-append _ (decimal e.len) (NoDash-append (decimal e.at) (codes "+") (number_no_dash e.at h.0))))))))

-- ---- lists

-- the item is read from its text, which holds no such byte and begins with no dash
pub record IsItem {X : Type 0} (c : ℕ) (text : X → List ℕ) (read : List ℕ → Option X) (x : X) : Type 0 where
  pub again : read (text x) ≡ Some x
  pub avoids : Avoids c (text x)
  pub no_dash : NoDash (text x)

joined_again : {X : Type 0} (c : ℕ) (text : X → List ℕ) (read : List ℕ → Option X) (x : X) (xs : List X) → IsItem c text read x → AllByRecursion (IsItem c text read) xs
    → all_at read (slice_split (λ b. b == c) (join_with_byte c (map text (x ∷ xs)))) ≡ Some (x ∷ xs)
unfolding all_at
joined_again c text read x [] h hs = rw (cut-none c (text x) (cut-missing c (text x) h.avoids), h.again) refl
joined_again c text read x (y ∷ ys) h hs =
    let rest : List ℕ = join_with_byte c (map text (y ∷ ys)) in
    let split = (cut-some c (text x ++ c ∷ rest) (text x) rest (cut-at c (text x) rest h.avoids)).parts in
    rw (split, h.again, joined_again c text read y ys hs.0 hs.1) refl

joined_no_dash : {X : Type 0} (c : ℕ) (text : X → List ℕ) (x : X) (xs : List X) → NoDash (text x) → NoDash (join_with_byte c (map text (x ∷ xs)))
joined_no_dash c text x [] h = h
joined_no_dash c text x (y ∷ ys) h = NoDash-append (text x) (c ∷ join_with_byte c (map text (y ∷ ys))) h

joined_list : {X : Type 0} (c : ℕ) (text : X → List ℕ) (read : List ℕ → Option X) (x : X) (xs : List X) → AllByRecursion (IsItem c text read) (x ∷ xs) → list_at c read (join_with_byte c (map text (x ∷ xs))) ≡ Some (x ∷ xs)
unfolding list_at
joined_list c text read x xs h =
    rw (not_dash (join_with_byte c (map text (x ∷ xs))) (joined_no_dash c text x xs h.0.no_dash)) (joined_again c text read x xs h.0 h.1)

dash_list : {X : Type 0} (c : ℕ) (read : List ℕ → Option X) → list_at c read (codes "-") ≡ Some []
unfolding list_at
dash_list c read = refl

pub list_again : {X : Type 0} (text : X → List ℕ) (read : List ℕ → Option X) (xs : List X) → AllByRecursion (IsItem 44 text read) xs → list_at 44 read (list_text text xs) ≡ Some xs
list_again text read [] h = dash_list 44 read
list_again text read (x ∷ xs) h = joined_list 44 text read x xs h

pub pieces_again : (piece : Entry) (pieces : List Entry) → AllByRecursion EntryFits (piece ∷ pieces) → list_at 32 piece_at (join_with_byte 32 (map piece_text (piece ∷ pieces))) ≡ Some (piece ∷ pieces)
pieces_again piece pieces h =
    joined_list 32 piece_text piece_at piece pieces (weaker EntryFits (IsItem 32 piece_text piece_at) (λ e is. record { again = piece_again e is; avoids = avoids_below 42 32 (piece_text e) (omega arith) (piece_above e is); no_dash = piece_no_dash e is }) (piece ∷ pieces) h)

pub no_pieces_again : list_at 32 piece_at (codes "-") ≡ Some []
no_pieces_again = dash_list 32 piece_at

-- the bytes of a list are above this
joined_above : {X : Type 0} (k c : ℕ) (text : X → List ℕ) (x : X) (xs : List X) → k < c → AllByRecursion (λ y. Above k (text y)) (x ∷ xs) → Above k (join_with_byte c (map text (x ∷ xs)))
joined_above k c text x [] low h = h.0
joined_above k c text x (y ∷ ys) low h = by_append (λ b. k < b) (text x) (c ∷ join_with_byte c (map text (y ∷ ys))) h.0 (low, joined_above k c text y ys low h.1)

pub list_above : {X : Type 0} (text : X → List ℕ) (xs : List X) → AllByRecursion (λ y. Above 43 (text y)) xs → Above 43 (list_text text xs)
list_above text [] h = (omega arith, tt)
list_above text (x ∷ xs) h = joined_above 43 44 text x xs (omega arith) h

-- a list that is printed as one word
pub record IsWord {X : Type 0} (text : X → List ℕ) (read : List ℕ → Option X) (xs : List X) : Type 0 where
  pub again : list_at 44 read (list_text text xs) ≡ Some xs
  pub above : Above 43 (list_text text xs)

pub counts_word : (xs : List WriterCount) → AllByRecursion IsCount xs → IsWord count_text count_at xs
counts_word xs h = record {
  again = list_again count_text count_at xs (weaker IsCount (IsItem 44 count_text count_at) (λ x is. record { again = count_again x is; avoids = avoids_below 47 44 (count_text x) (omega arith) (pair_above x.writer x.count is.0 is.1); no_dash = pair_no_dash x.writer x.count is.0 }) xs h);
  above = list_above count_text xs (weaker IsCount (λ y. Above 43 (count_text y)) (λ x is. lower 43 47 (count_text x) (omega arith) (pair_above x.writer x.count is.0 is.1)) xs h);
}

pub shares_word : (xs : List ShareBytes) → AllByRecursion IsShare xs → IsWord share_text share_at xs
shares_word xs h = record {
  again = list_again share_text share_at xs (weaker IsShare (IsItem 44 share_text share_at) (λ x is. record { again = share_again x is; avoids = avoids_below 47 44 (share_text x) (omega arith) (pair_above x.writer x.bytes is.0 is.1); no_dash = pair_no_dash x.writer x.bytes is.0 }) xs h);
  above = list_above share_text xs (weaker IsShare (λ y. Above 43 (share_text y)) (λ x is. lower 43 47 (share_text x) (omega arith) (pair_above x.writer x.bytes is.0 is.1)) xs h);
}

pub truncs_word : (xs : List Trunc) → AllByRecursion IsTrunc xs → IsWord trunc_text trunc_at xs
truncs_word xs h = record {
  again = list_again trunc_text trunc_at xs (weaker IsTrunc (IsItem 44 trunc_text trunc_at) (λ x is. record { again = trunc_again x is; avoids = avoids_below 47 44 (trunc_text x) (omega arith) (pair_above x.stamp x.size is.0 is.1); no_dash = pair_no_dash x.stamp x.size is.0 }) xs h);
  above = list_above trunc_text xs (weaker IsTrunc (λ y. Above 43 (trunc_text y)) (λ x is. lower 43 47 (trunc_text x) (omega arith) (pair_above x.stamp x.size is.0 is.1)) xs h);
}

pub ids_word : (xs : List ℕ) → AllByRecursion Is64 xs → IsWord decimal number_spelled xs
ids_word xs h = record {
  again = list_again decimal number_spelled xs (weaker Is64 (IsItem 44 decimal number_spelled) (λ x is. record { again = number_at-some x (decimal x) is refl; avoids = number_avoids_low 44 x (omega arith) (omega arith); no_dash = number_no_dash x is }) xs h);
  above = list_above decimal xs (weaker Is64 (λ y. Above 43 (decimal y)) (λ x is. lower 43 47 (decimal x) (omega arith) (number_above x (omega arith))) xs h);
}

short_again : (name : List ℕ) → length name ≤ 96 → short_at name ≡ Some name
unfolding short_at
short_again name short =
    let test : nat_le (length name) 96 ≡ true = grind (arith, nat_tests) in
    rw test refl

abbrev as_is : List ℕ → List ℕ
as_is name = name

pub names_word : (xs : List (List ℕ)) → All IsLogicalName xs → IsWord (λ name. name) short_at xs
names_word xs all =
    let h = by_recursion IsLogicalName xs all in
    record {
      again = list_again as_is short_at xs (weaker IsLogicalName (IsItem 44 as_is short_at) (λ x is. record { again = short_again x (omega (arith, is.short)); avoids = avoids_below 44 44 x (omega arith) (logical_above x is); no_dash = logical_no_dash x is }) xs h);
      above = list_above as_is xs (weaker IsLogicalName (λ y. Above 43 (as_is y)) (λ x is. lower 43 44 x (omega arith) (logical_above x is)) xs h);
    }

pub list_field_again : {X : Type 0} (text : X → List ℕ) (read : List ℕ → Option X) (xs : List X) (rest : List ℕ) → IsWord text read xs → list_field read (list_text text xs ++ 32 ∷ rest) ≡ Some (xs, rest)
unfolding list_field
list_field_again text read xs rest h = rw (cut-at 32 (list_text text xs) rest (avoids_below 43 32 (list_text text xs) (omega arith) h.above), h.again) refl

-- ---- stamps, contents, names

pub stamp_again : (stamp : Option ℕ) → IfSome stamp Is64 → stamp_spelled (stamp_text stamp) ≡ Some stamp
unfolding stamp_spelled
stamp_again None h = refl
stamp_again (Some n) h = rw (not_dash (decimal n) (number_no_dash n h), number_at-some n (decimal n) h refl) refl

pub yes_again : (hold : Bool) → yes_at (yes_or_no hold) ≡ Some hold
unfolding yes_at
yes_again true = refl
yes_again false = refl

bytes_by_index : (bytes : List ℕ) → AreBytes bytes → IsBytes bytes
bytes_by_index [] h i = omega arith
bytes_by_index (b ∷ bytes) h zero = h.0
bytes_by_index (b ∷ bytes) h (suc i) = bytes_by_index bytes h.1 i

pub content_again : (content : List ℕ) → AreBytes content → content_at (content_text content) ≡ Some content
unfolding content_at
content_again [] h = refl
content_again (b ∷ bytes) h = rw (not_dash (encode_lower (b ∷ bytes)) (content_no_dash b bytes h), decode_of-encode_lower (b ∷ bytes) (bytes_by_index (b ∷ bytes) h)) refl

escape_again : (b : ℕ) (rest : List ℕ) → b < 256 → escape_at (slice_index upper_digits (b / 16) ∷ slice_index upper_digits (b % 16) ∷ rest) ≡ Some (b, rest)
unfolding escape_at
escape_again b rest byte =
    let high : b / 16 < 16 = omega arith in
    let low : b % 16 < 16 = omega arith in
    let whole : b / 16 * 16 + b % 16 ≡ b = omega arith in
    rw (IsDigits-upper_digits (b / 16) high, IsDigits-upper_digits (b % 16) low, whole) refl

byte_again : (b : ℕ) (rest : List ℕ) → b < 256 → name_at (escaped_byte b ++ rest) ≡ before_others (b, rest)
unfolding byte_at
byte_again b rest byte =
    elim (is_name_byte b) as (λ v. is_name_byte b ≡ v → name_at (cond v (b ∷ []) (37 ∷ slice_index upper_digits (b / 16) ∷ slice_index upper_digits (b % 16) ∷ []) ++ rest) ≡ before_others (b, rest)) [
      | true ↦ λ e. by_byte b rest ∙ rw (name_byte_no_escape b e) refl
      | false ↦ λ e. by_byte 37 (slice_index upper_digits (b / 16) ∷ slice_index upper_digits (b % 16) ∷ rest) ∙ rw (escape_again b rest byte) refl
    ] refl

pub name_again : (name : List ℕ) → AreBytes name → name_at (escaped name) ≡ Some name
unfolding name_at
name_again [] h = refl
name_again (b ∷ name) h = byte_again b (escaped name) h.0 ∙ rw (name_again name h.1) refl

short_name_again : (name : List ℕ) → IsShortName name → short_name_at (escaped name) ≡ Some name
unfolding short_name_at
short_name_again name h = rw (name_again name h.0, short_again name h.1) refl

pub place_again : (folder file : List ℕ) → IsShortName folder → IsShortName file → place_at (place_text folder file) ≡ Some (folder, file)
unfolding place_at parts_of_place
place_again [] file folder_fits file_fits =
    let apart : Avoids 47 (escaped file) = weaker IsPlain (λ b. (b == 47) ≡ false) (λ b plain. plain.1) (escaped file) (escaped_plain file file_fits.0) in
    rw (cut-missing 47 (escaped file) apart, short_name_again [] folder_fits, short_name_again file file_fits) refl
place_again (b ∷ bs) file folder_fits file_fits =
    let folder : List ℕ = b ∷ bs in
    let apart : Avoids 47 (escaped folder) = weaker IsPlain (λ b. (b == 47) ≡ false) (λ b plain. plain.1) (escaped folder) (escaped_plain folder folder_fits.0) in
    let regrouped : place_text folder file ≡ escaped folder ++ 47 ∷ escaped file = append_assoc (escaped folder) (codes "/") (escaped file) in
    rw (regrouped, cut-at 47 (escaped folder) (escaped file) apart, short_name_again folder folder_fits, short_name_again file file_fits) refl

-- the text of a place, without a space or a line feed
pub place_plain : (folder file : List ℕ) → AreBytes folder → AreBytes file → Above 36 (place_text folder file)
place_plain [] file folder_fits file_fits = weaker IsPlain (λ b. 36 < b) (λ b plain. plain.0) (escaped file) (escaped_plain file file_fits)
place_plain (b ∷ bs) file folder_fits file_fits =
    by_append (λ x. 36 < x) (escaped (b ∷ bs) ++ codes "/") (escaped file)
    (by_append (λ x. 36 < x) (escaped (b ∷ bs)) (codes "/") (weaker IsPlain (λ x. 36 < x) (λ x plain. plain.0) (escaped (b ∷ bs)) (escaped_plain (b ∷ bs) folder_fits)) (omega arith, tt))
    (weaker IsPlain (λ x. 36 < x) (λ x plain. plain.0) (escaped file) (escaped_plain file file_fits))
