-- What is remembered of lines.
use Rattle.std.proofs.Common.{◌≡◌, ◌==◌, ◌+◌, ◌-◌, ◌<◌, ◌≤◌, ℕ, zero, suc, Bool, true, false, List, [], ◌∷◌, ◌++◌, length, take, drop, slice_index, slice_index_or, nat_eq, codes, refl, sym, ap, ◌∙◌, arith, append_assoc, length-append, length-drop, true≢false, add-one, if◌then◌else◌}
use Rattle.std.specs.Prelude.{Some, None}
use Rattle.std.specs.List.{starts_with}
use Rattle.std.specs.Cmp.{first_so, second_so}
use Rattle.std.specs.Cmp.Lexicographic.{pointwise}
use Rattle.std.proofs.Math.Seq.{take-length}
use Rattle.std.proofs.lemmas.Bool.Decides.{Decides-eqb}
use Rattle.memchr.specs.Find.{IsFirstByte, is_byte}
use Rattle.system_edge.specs.Telling.{Memory, after_byte, after_bytes, at_end, begun, from_space, nothing, with_more}

kept : (found : Bool) (memory other : Memory) → found ≡ true → (if found then memory else other) ≡ memory
kept true memory other is = refl
kept false memory other is = absurd (true≢false (sym is))

-- once a line of damage was written, what comes after it changes nothing
pub found_stays : (memory : Memory) (bytes : List ℕ) → memory.is_of_damage ≡ true → after_bytes memory bytes ≡ memory
found_stays memory [] is = refl
found_stays memory (byte ∷ bytes) is = ap (λ m. after_bytes m bytes) (kept memory.is_of_damage memory (after_byte memory.line byte) is) ∙ found_stays memory bytes is

take_none : (n : ℕ) → ◌≡◌ {A = List ℕ} (take n []) []
take_none zero = refl
take_none (suc n) = refl

append_none : (xs : List ℕ) → xs ++ [] ≡ xs
append_none [] = refl
append_none (x ∷ xs) = ap (λ rest. x ∷ rest) (append_none xs)

with_nothing : (line : List ℕ) → with_more line [] ≡ line
with_nothing line = ap (λ rest. line ++ rest) (take_none (1024 - length line)) ∙ append_none line

more_by : (most : ℕ) (line : List ℕ) (byte : ℕ) (bytes : List ℕ) (left : ℕ) → most - length line ≡ left → (line ++ take left (byte ∷ [])) ++ take (most - length (line ++ take left (byte ∷ []))) bytes ≡ line ++ take left (byte ∷ bytes)
more_by most line byte bytes zero is = rw (append_none line, is) (append_none line)
more_by most line byte bytes (suc left) is =
    let long : length (line ++ (byte ∷ [])) ≡ length line + 1 = length-append line (byte ∷ []) in
    let less : most - length (line ++ (byte ∷ [])) ≡ left = omega arith in
    rw (take_none left, less) (append_assoc line (byte ∷ []) (take left bytes))

-- a byte is remembered, and those behind it
pub one_more : (line : List ℕ) (byte : ℕ) (bytes : List ℕ) → with_more (with_more line (byte ∷ [])) bytes ≡ with_more line (byte ∷ bytes)
one_more line byte bytes = more_by 1024 line byte bytes (1024 - length line) refl

-- the bytes of a line up to its line feed
over_line : (line rest : List ℕ) (place : ℕ) → place < length rest → ((k : ℕ) → k < place → (slice_index rest k == 10) ≡ false) → (slice_index rest place == 10) ≡ true → after_bytes (begun line) rest ≡ after_bytes (at_end (with_more line (take place rest))) (drop (suc place) rest)
over_line line [] place within none here = absurd (omega (arith, within))
over_line line (byte ∷ rest) zero within none here =
    let is : (byte == 10) ≡ true = here in
    rw (is, with_nothing line) refl
over_line line (byte ∷ rest) (suc place) within none here =
    let not : (byte == 10) ≡ false = none 0 (omega arith) in
    let later = over_line (with_more line (byte ∷ [])) rest place (omega (arith, within)) (λ k less. none (suc k) (omega (arith, less))) here in
    rw not (later ∙ ap (λ m. after_bytes (at_end m) (drop (suc place) rest)) (one_more line byte (take place rest)))

-- bytes of a line that has no line feed yet
over_rest : (line rest : List ℕ) → ((k : ℕ) → k < length rest → (slice_index rest k == 10) ≡ false) → after_bytes (begun line) rest ≡ begun (with_more line rest)
over_rest line [] none = ap begun (sym (with_nothing line))
over_rest line (byte ∷ rest) none =
    let not : (byte == 10) ≡ false = none 0 (omega arith) in
    let later = over_rest (with_more line (byte ∷ [])) rest (λ k less. none (suc k) (omega (arith, less))) in
    rw not (later ∙ ap begun (one_more line byte rest))

not_passed : (b : Bool) → ¬ (b ≡ true) → b ≡ false
not_passed true none = absurd (none refl)
not_passed false none = refl

rest_of : (at : ℕ) (xs : List ℕ) → take (length xs - at) (drop at xs) ≡ drop at xs
rest_of at xs = rw (← length-drop at xs, take-length) refl

-- up to the first line feed a line goes on, and there it ends
pub line_ends : (bytes : List ℕ) (place : ℕ) → IsFirstByte (is_byte 10) bytes (Some place) → (line : List ℕ) → after_bytes (begun line) bytes ≡ after_bytes (at_end (with_more line (take place bytes))) (take (length bytes - (place + 1)) (drop (place + 1) bytes))
line_ends bytes place first line =
    let ended = over_line line bytes place first.0.high (λ k less. not_passed (slice_index bytes k == 10) (first.0.before k (omega arith) less)) first.1 in
    rw add-one (ended ∙ ap (after_bytes (at_end (with_more line (take place bytes)))) (sym (rest_of (suc place) bytes)))

-- where no line feed stands the line goes on
pub line_goes_on : (bytes : List ℕ) → IsFirstByte (is_byte 10) bytes None → (line : List ℕ) → after_bytes (begun line) bytes ≡ begun (with_more line bytes)
line_goes_on bytes first line = over_rest line bytes (λ k less. not_passed (slice_index bytes k == 10) (first k (omega arith) less))

letter_first : (most : ℕ) (line : List ℕ) → pointwise nat_eq (codes "damaged ") (take 8 (take most line)) ≡ true → (1 ≤ length line) × (slice_index_or line 0 0 ≡ 100)
letter_first zero line is = absurd (true≢false (sym is))
letter_first (suc most) [] is = absurd (true≢false (sym is))
letter_first (suc most) (byte ∷ line) is =
    let same : 100 ≡ byte = (Decides-eqb 100 byte).0 (first_so (nat_eq 100 byte) _ is) in
    (omega arith, sym same)

-- a line of damage has the word's first letter behind its first space
word_begins : (most : ℕ) (line : List ℕ) → starts_with nat_eq (from_space (take most line)) (codes " damaged ") ≡ true → (2 ≤ length (from_space line)) × (slice_index_or (from_space line) 1 0 ≡ 100)
word_begins zero line is = absurd (true≢false (sym is))
word_begins (suc most) [] is = absurd (true≢false (sym is))
word_begins (suc most) (byte ∷ line) is = (elim (byte == 32) as (λ y. (byte == 32) ≡ y → (2 ≤ length (from_space (byte ∷ line))) × (slice_index_or (from_space (byte ∷ line)) 1 0 ≡ 100)) [
  | true ↦ λ t.
      let is' = rw t at is in
      let letter = letter_first most line (second_so (nat_eq 32 byte) _ is') in
      rw t (omega (arith, letter.0), letter.1)
  | false ↦ λ t. rw t (word_begins most line (rw t at is))
]) refl

without_word : (line : List ℕ) (said : Bool) → starts_with nat_eq (from_space line) (codes " damaged ") ≡ said → said ≡ false → at_end line ≡ nothing
without_word line said is none = let no : starts_with nat_eq (from_space line) (codes " damaged ") ≡ false = is ∙ none in rw no refl

other_line : (line : List ℕ) → (starts_with nat_eq (from_space (take 1024 line)) (codes " damaged ") ≡ true → ⊥) → at_end (take 1024 line) ≡ nothing
other_line line none = without_word (take 1024 line) (starts_with nat_eq (from_space (take 1024 line)) (codes " damaged ")) refl (not_passed (starts_with nat_eq (from_space (take 1024 line)) (codes " damaged ")) none)

-- behind the first space stands no letter with which the word begins, or nothing
pub no_letter : (line behind : List ℕ) → behind ≡ from_space line → nat_eq (slice_index_or behind 1 0) 100 ≡ false → at_end (take 1024 line) ≡ nothing
no_letter line behind is not = other_line line (λ said.
    let letter = (word_begins 1024 line said).1 in
    let also : slice_index_or behind 1 0 ≡ 100 = ap (λ b. slice_index_or b 1 0) is ∙ letter in
    let same : nat_eq (slice_index_or behind 1 0) 100 ≡ true = (Decides-eqb (slice_index_or behind 1 0) 100).1 also in
    true≢false (sym same ∙ not))

pub too_short : (line behind : List ℕ) → behind ≡ from_space line → length behind < 2 → at_end (take 1024 line) ≡ nothing
too_short line behind is short = other_line line (λ said.
    let long = (word_begins 1024 line said).0 in
    let also : length behind ≡ length (from_space line) = ap length is in
    omega arith)

-- a line that came whole, of which nothing was remembered before
pub whole_line : (items part : List ℕ) (found : Bool) → items ≡ [] → found ≡ false → at_end (with_more [] part) ≡ nothing → (◌≡◌ {A = Memory} (record { line = items; is_of_damage = found }) (at_end (with_more items part)))
whole_line items part found none not other = rw (none, not) (sym other)

pub no_items : (items : List ℕ) → (length items == 0) ≡ true → items ≡ []
no_items [] is = refl
no_items (item ∷ items) is = let none : length (item ∷ items) ≡ 0 = (Decides-eqb (length (item ∷ items)) 0).0 is in absurd (omega arith)

abbrev remembering : List ℕ → Bool → Memory
remembering line found = record { line = line; is_of_damage = found }

as_begun : (memory : Memory) → memory.is_of_damage ≡ false → begun memory.line ≡ memory
as_begun memory not = ap (remembering memory.line) (sym not)

pub was_alive : (old new : Bool) → (old ≡ true → new ≡ true) → new ≡ false → old ≡ false
was_alive true new lasts alive = absurd (true≢false (sym (lasts refl) ∙ alive))
was_alive false new lasts alive = refl

module _ (old new : Memory) (rest : List ℕ) (found : old.is_of_damage ≡ true → new ≡ old) where
  -- the rest of a line was taken in, and what is behind it comes next
  pub line_taken : (line behind : List ℕ) → (old.is_of_damage ≡ false → new ≡ at_end (with_more old.line line)) → ((front : List ℕ) → after_bytes (begun front) rest ≡ after_bytes (at_end (with_more front line)) behind) → after_bytes new behind ≡ after_bytes old rest
  line_taken line behind ended first = (elim old.is_of_damage as (λ y. old.is_of_damage ≡ y → after_bytes new behind ≡ after_bytes old rest) [
    | true ↦ λ t. ap (λ m. after_bytes m behind) (found t) ∙ found_stays old behind t ∙ sym (found_stays old rest t)
    | false ↦ λ t. ap (λ m. after_bytes m behind) (ended t) ∙ sym (first old.line) ∙ ap (λ m. after_bytes m rest) (as_begun old t)
  ]) refl

  -- the front of a line was taken in
  pub rest_taken : new.is_of_damage ≡ old.is_of_damage → (old.is_of_damage ≡ false → new.line ≡ with_more old.line rest) → ((front : List ℕ) → after_bytes (begun front) rest ≡ begun (with_more front rest)) → new ≡ after_bytes old rest
  rest_taken same more none = (elim old.is_of_damage as (λ y. old.is_of_damage ≡ y → new ≡ after_bytes old rest) [
    | true ↦ λ t. found t ∙ sym (found_stays old rest t)
    | false ↦ λ t. sym (as_begun new (same ∙ t)) ∙ ap begun (more t) ∙ sym (none old.line) ∙ ap (λ m. after_bytes m rest) (as_begun old t)
  ]) refl
