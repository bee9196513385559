-- Where bytes are cut.
use Rattle.std.proofs.Common.{◌≡◌, ◌≢◌, ◌==◌, ℕ, suc, ◌+◌, ◌-◌, ◌<◌, ◌≤◌, Bool, true, false, cond, nat_lt, not, List, [], ◌∷◌, length, take, drop, Some, None, refl, sym, ap, ◌∙◌, arith, length-drop}
use Rattle.std.specs.Prelude.{position}
use Rattle.std.specs.List.{join_with_byte, position_or_len, slice_split, onto_first}
use Rattle.std.proofs.Math.Seq.{take-length}
use Rattle.std.proofs.lemmas.Bool.Decides.{nat_tests}
use Rattle.std.proofs.lemmas.List.Splits.{join_with_byte-slice_split, length-slice_split, slice_split_first, slice_split-cons_no}
use Rattle.pack_input.specs.Words.{lines_of, without_empty_last}
use Rattle.plfs_types.specs.Parts.{parts_of}

guarded : (n len i : ℕ) (b : Bool) → nat_lt n len ≡ b → cond b (Some n) None ≡ Some i → (i ≡ n) × (i < len)
guarded n len i true below is = let same : n ≡ i = cc in let less : n < len = grind (arith, nat_tests) in (sym same, omega arith)
guarded n len i false below is = cc

unguarded : (n len : ℕ) (b : Bool) → nat_lt n len ≡ b → cond b (Some n) None ≡ None → len ≤ n
unguarded n len true below is = cc
unguarded n len false below is = grind (arith, nat_tests)

rest_of : {X : Type 0} (at : ℕ) (xs : List X) → take (length xs - at) (drop at xs) ≡ drop at xs
rest_of at xs = rw (← length-drop at xs, take-length) refl

-- before the first place that passes stands the first part
pub parts-cut : (p : ℕ → Bool) (xs : List ℕ) (i : ℕ) → position p xs ≡ Some i → slice_split p xs ≡ take i xs ∷ slice_split p (take (length xs - (i + 1)) (drop (i + 1) xs))
parts-cut p xs i is =
    let at = guarded (position_or_len p xs) (length xs) i _ refl is in
    let within : position_or_len p xs < length xs = rw (← at.0) at.1 in
    rw (rest_of (i + 1) xs, at.0) (slice_split_first p xs 0 within)

one_more : (p : ℕ → Bool) (x : ℕ) (xs : List ℕ) (b : Bool) → p x ≡ b → (length xs ≤ position_or_len p xs → slice_split p xs ≡ xs ∷ []) → suc (length xs) ≤ cond (not b) (1 + position_or_len p xs) 0 → slice_split p (x ∷ xs) ≡ (x ∷ xs) ∷ []
one_more p x xs true is rest none = absurd (omega arith)
one_more p x xs false is rest none =
    let fewer : length xs ≤ position_or_len p xs = omega arith in
    slice_split-cons_no p x xs is ∙ ap (onto_first x) (rest fewer)

one_part : (p : ℕ → Bool) (xs : List ℕ) → length xs ≤ position_or_len p xs → slice_split p xs ≡ xs ∷ []
one_part p [] none = refl
one_part p (x ∷ xs) none = one_more p x xs (p x) refl (one_part p xs) none

-- where no place passes, there is one part
pub parts-whole : (p : ℕ → Bool) (xs : List ℕ) → position p xs ≡ None → slice_split p xs ≡ xs ∷ []
parts-whole p xs is = one_part p xs (unguarded (position_or_len p xs) (length xs) _ refl is)

pub some_parts : (byte : ℕ) (bytes : List ℕ) → parts_of byte bytes ≢ []
some_parts byte bytes none =
    let many = length-slice_split (λ b. b == byte) bytes in
    let few : length (parts_of byte bytes) ≡ 0 = ap length none in
    omega arith

-- ---- the first line

onto_lines : (line : List ℕ) (parts : List (List ℕ)) → parts ≢ [] → without_empty_last (line ∷ parts) ≡ line ∷ without_empty_last parts
onto_lines line [] some = absurd (some refl)
onto_lines line (next ∷ parts) some = refl

-- a line that ends with a line feed, and those behind it
pub line_cut : (bytes line rest : List ℕ) → parts_of 10 bytes ≡ line ∷ parts_of 10 rest → lines_of bytes ≡ line ∷ lines_of rest
line_cut bytes line rest cut = ap without_empty_last cut ∙ onto_lines line (parts_of 10 rest) (some_parts 10 rest)

-- a last line without one
pub line_whole : (bytes line : List ℕ) → 1 ≤ length bytes → parts_of 10 bytes ≡ line ∷ [] → lines_of bytes ≡ line ∷ lines_of []
line_whole bytes [] some whole =
    let none : bytes ≡ [] = sym (join_with_byte-slice_split 10 bytes) ∙ ap (join_with_byte 10) whole in
    let few : length bytes ≡ 0 = ap (λ (xs : List ℕ). length xs) none in
    absurd (omega (arith, some, few))
line_whole bytes (b ∷ line) some whole = ap without_empty_last whole
