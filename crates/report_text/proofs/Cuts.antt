-- Texts that are cut at a byte.
use Rattle.std.proofs.Common.{◌≡◌, ℕ, ◌+◌, ◌<◌, ◌==◌, Bool, true, false, nat_lt, List, [], ◌∷◌, ◌++◌, length, take, drop, get_or, Some, None, refl, sym, ap, ◌∙◌, arith, inl, inr, append_assoc}
use Rattle.std.specs.List.{slice_split, position_or_len, AllByRecursion}
use Rattle.std.proofs.lemmas.Bool.{cases_lt, lt-ltb, eqb-true}
use Rattle.std.proofs.lemmas.Bool.Decides.{nat_tests}
use Rattle.std.proofs.lemmas.List.{take_at, drop_at, length-drop, length-append}
use Rattle.std.proofs.lemmas.List.Splits.{slice_split_first, slice_split_none}
use Rattle.std.proofs.lemmas.List.Sums.{fails_before_first, passes_at_first, split_at_first}
use Rattle.std.proofs.lemmas.Option.{some_pair_parts}
use Rattle.report_text.specs.Reading.{cut}

-- whether a byte is this one
abbrev pub is_at : ℕ → ℕ → Bool
is_at c b = b == c

-- the byte is not in the text
abbrev pub Avoids : ℕ → List ℕ → Type 0
Avoids c text = AllByRecursion (λ b. (b == c) ≡ false) text

-- ---- what a cut says of a split

pub record Splits (c : ℕ) (bytes front rest : List ℕ) : Type 0 where
  pub parts : slice_split (λ b. b == c) bytes ≡ front ∷ slice_split (λ b. b == c) rest
  pub shorter : length rest < length bytes

pub cut-some : (c : ℕ) (bytes front rest : List ℕ) → cut c bytes ≡ Some (front, rest) → Splits c bytes front rest
unfolding cut
cut-some c bytes front rest e =
    let p : ℕ → Bool = λ b. b == c in
    elim (cases_lt (position_or_len p bytes) (length bytes)) [
      | inl within ↦
          let test : nat_lt (position_or_len p bytes) (length bytes) ≡ true = grind (arith, nat_tests) in
          let found = rw test at e in
          let same = some_pair_parts (take (position_or_len p bytes) bytes) front (drop (position_or_len p bytes + 1) bytes) rest found in
          record {
            parts = rw (← same.0, ← same.1) (slice_split_first p bytes 0 within);
            shorter = rw (← same.1) (omega (arith, length-drop (position_or_len p bytes + 1) bytes));
          }
      | inr past ↦
          let test : nat_lt (position_or_len p bytes) (length bytes) ≡ false = grind (arith, nat_tests) in
          let found = rw test at e in
          absurd (cc found)
    ]

-- the two parts and the byte are the whole
pub cut-joins : (c : ℕ) (bytes front rest : List ℕ) → cut c bytes ≡ Some (front, rest) → bytes ≡ front ++ c ∷ rest
unfolding cut
cut-joins c bytes front rest e =
    let p : ℕ → Bool = λ b. b == c in
    elim (cases_lt (position_or_len p bytes) (length bytes)) [
      | inl within ↦
          let test : nat_lt (position_or_len p bytes) (length bytes) ≡ true = grind (arith, nat_tests) in
          let found = rw test at e in
          let same = some_pair_parts (take (position_or_len p bytes) bytes) front (drop (position_or_len p bytes + 1) bytes) rest found in
          let byte : get_or bytes (position_or_len p bytes) 0 ≡ c = eqb-true _ _ (passes_at_first p bytes 0 within) in
          split_at_first p bytes 0 within
          ∙ ap (λ (b : ℕ). take (position_or_len p bytes) bytes ++ b ∷ drop (position_or_len p bytes + 1) bytes) byte
          ∙ ap (λ (x : List ℕ). x ++ c ∷ drop (position_or_len p bytes + 1) bytes) same.0
          ∙ ap (λ (x : List ℕ). front ++ c ∷ x) same.1
      | inr past ↦
          let test : nat_lt (position_or_len p bytes) (length bytes) ≡ false = grind (arith, nat_tests) in
          let found = rw test at e in
          absurd (cc found)
    ]

pub cut-none : (c : ℕ) (bytes : List ℕ) → cut c bytes ≡ None → slice_split (λ b. b == c) bytes ≡ bytes ∷ []
unfolding cut
cut-none c bytes e =
    let p : ℕ → Bool = λ b. b == c in
    elim (cases_lt (position_or_len p bytes) (length bytes)) [
      | inl within ↦
          let test : nat_lt (position_or_len p bytes) (length bytes) ≡ true = grind (arith, nat_tests) in
          let found = rw test at e in
          absurd (cc found)
      | inr past ↦ slice_split_none p bytes (λ k d within. fails_before_first p bytes k d (omega arith))
    ]

-- ---- where a text is cut

first_at : (c : ℕ) (front rest : List ℕ) → Avoids c front → position_or_len (λ b. b == c) (front ++ c ∷ rest) ≡ length front
first_at c [] rest h =
    let same : (c == c) ≡ true = grind (arith, nat_tests) in
    rw same refl
first_at c (b ∷ front) rest h = rw (h.0, first_at c front rest h.1) (omega arith)

none_before : (c : ℕ) (text : List ℕ) → Avoids c text → position_or_len (λ b. b == c) text ≡ length text
none_before c [] h = refl
none_before c (b ∷ text) h = rw (h.0, none_before c text h.1) (omega arith)

pub cut-at : (c : ℕ) (front rest : List ℕ) → Avoids c front → cut c (front ++ c ∷ rest) ≡ Some (front, rest)
unfolding cut
cut-at c front rest h =
    let place = first_at c front rest h in
    let within : length front < length (front ++ c ∷ rest) = omega (arith, length-append front (c ∷ rest)) in
    let test : nat_lt (length front) (length (front ++ c ∷ rest)) ≡ true = lt-ltb _ _ within in
    let behind : drop (length front + 1) (front ++ c ∷ rest) ≡ rest =
    ap (drop (length front + 1)) (sym (append_assoc front (c ∷ []) rest)) ∙ drop_at (front ++ c ∷ []) rest (length front + 1) (omega (arith, length-append front (c ∷ []))) in
    rw (place, test, take_at front (c ∷ rest) (length front) refl, behind) refl

pub cut-missing : (c : ℕ) (text : List ℕ) → Avoids c text → cut c text ≡ None
unfolding cut
cut-missing c text h =
    let place = none_before c text h in
    let test : nat_lt (length text) (length text) ≡ false = grind (arith, nat_tests) in
    rw (place, test) refl
