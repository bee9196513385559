-- Numbers with dots between them: where the first one ends, and that a text has at most one list of numbers.
use Rattle.std.proofs.Common.{◌≡◌, ℕ, ◌+◌, ◌-◌, ◌<◌, ◌^◌, List, [], ◌∷◌, ◌++◌, length, get_or, take, drop, Option, Some, None, refl, sym, ap, ◌∙◌, arith}
use Rattle.std.specs.Prelude.{◌==◌, position, IfSome, IfNone}
use Rattle.std.specs.List.{position_or_len, flat_map}
use Rattle.std.specs.Fmt.{decimal}
use Rattle.std.proofs.lemmas.Bool.{lt-ltb, ne_eqb, eq-eqb, eqb-true}
use Rattle.std.proofs.lemmas.List.{append-nil, take_at, drop_at, length-append, get_or_append_left, drop_more, take_rest, take-append-drop}
use Rattle.std.proofs.Math.Seq.{get_or-append_seam}
use Rattle.std.proofs.lemmas.List.Sums.{position_or_len_is}
use Rattle.std.proofs.lemmas.List.Quantifiers.{position-Some}
use Rattle.std.proofs.lemmas.Fmt.{decimal_injective}
use Rattle.container_layout.specs.Numbers.{dotted, behind_dot, IsNumber, AreNumbers}
use Rattle.container_layout.proofs.Decimals.{byte_of}

-- what is said of None only
pub at_none : {T : Type 0} (answer : Option T) {P : Type 0} → P → IfNone answer P
at_none None p = p
at_none (Some x) p = tt

-- the first dot stands behind the first number
pub first_dot-behind : (n : ℕ) (rest : List ℕ) → n < 2 ^ 64 → position (λ b. b == 46) (decimal n ++ 46 ∷ rest) ≡ Some (length (decimal n))
first_dot-behind n rest lt =
    let text : List ℕ = decimal n ++ 46 ∷ rest in
    let long : length (decimal n) < length text = omega (arith, length-append (decimal n) (46 ∷ rest)) in
    let place : position_or_len (λ b. b == 46) text ≡ length (decimal n) =
    position_or_len_is (λ b. b == 46) text (length (decimal n)) 0 (omega arith)
    (λ k here.
    let digit = byte_of n k lt here in
    ne_eqb _ _ (λ dot. omega (arith, digit.0, digit.1, dot, get_or_append_left (decimal n) (46 ∷ rest) 0 k here)))
    (λ _. eq-eqb _ _ (get_or-append_seam (decimal n) 46 rest 0)) in
    rw (place, lt-ltb _ _ long) refl

-- what the first dot cuts a text into
pub cut_at_dot : (text : List ℕ) (i : ℕ) → position (λ b. b == 46) text ≡ Some i → text ≡ take i text ++ 46 ∷ drop (i + 1) text
cut_at_dot text i found =
    let at_dot = position-Some (λ b. b == 46) text i 0 found in
    let dot : get_or text i 0 ≡ 46 = eqb-true _ _ at_dot.1 in
    sym (take-append-drop i text) ∙ ap (λ (t : List ℕ). take i text ++ t) (drop_more text i 0 at_dot.0 ∙ ap (λ (b : ℕ). b ∷ drop (i + 1) text) dot)

pub split_once : (a b : ℕ) (r s : List ℕ) → a < 2 ^ 64 → b < 2 ^ 64 → decimal a ++ 46 ∷ r ≡ decimal b ++ 46 ∷ s → (a ≡ b) × (r ≡ s)
split_once a b r s a_lt b_lt same =
    let places : Some (length (decimal a)) ≡ Some (length (decimal b)) =
    sym (first_dot-behind a r a_lt) ∙ ap (position (λ b. b == 46)) same ∙ first_dot-behind b s b_lt in
    let len : length (decimal a) ≡ length (decimal b) = cc in
    let front : decimal a ≡ decimal b =
    sym (take_at (decimal a) (46 ∷ r) (length (decimal b)) len) ∙ ap (take (length (decimal b))) same ∙ take_at (decimal b) (46 ∷ s) (length (decimal b)) refl in
    let back : 46 ∷ r ≡ 46 ∷ s =
    sym (drop_at (decimal a) (46 ∷ r) (length (decimal b)) len) ∙ ap (drop (length (decimal b))) same ∙ drop_at (decimal b) (46 ∷ s) (length (decimal b)) refl in
    (decimal_injective a b a_lt b_lt front, ap (drop 1) back)

pub found_first : (text : List ℕ) (i n : ℕ) → position (λ b. b == 46) text ≡ Some i → IsNumber (take i text) n
    → (n < 2 ^ 64) × (text ≡ decimal n ++ 46 ∷ take (length text - (i + 1)) (drop (i + 1) text))
found_first text i n found is = (
  is.fits,
  cut_at_dot text i found ∙ ap (λ (t : List ℕ). t ++ 46 ∷ drop (i + 1) text) is.printed
      ∙ ap (λ (t : List ℕ). decimal n ++ 46 ∷ t) (sym (take_rest text (i + 1))),
)

-- the text before the first dot, where the text begins with a number and a dot
pub before_dot : (text : List ℕ) (i n : ℕ) (rest : List ℕ) → position (λ b. b == 46) text ≡ Some i → n < 2 ^ 64 → text ≡ decimal n ++ 46 ∷ rest → take i text ≡ decimal n
before_dot text i n rest found lt cut =
    let places : Some i ≡ Some (length (decimal n)) = sym found ∙ ap (position (λ b. b == 46)) cut ∙ first_dot-behind n rest lt in
    let place : length (decimal n) ≡ i = cc in
    ap (take i) cut ∙ take_at (decimal n) (46 ∷ rest) i place

pub no_dot : (text : List ℕ) (n : ℕ) (rest : List ℕ) → position (λ b. b == 46) text ≡ None → n < 2 ^ 64 → text ≡ decimal n ++ 46 ∷ rest → ⊥
no_dot text n rest missing lt cut =
    let places : position (λ b. b == 46) text ≡ Some (length (decimal n)) = ap (position (λ b. b == 46)) cut ∙ first_dot-behind n rest lt in
    absurd cc

pub only_number : (text : List ℕ) (n : ℕ) → AreNumbers text (n ∷ []) → IsNumber text n
only_number text n are = record { fits = are.fit.0; printed = are.printed }

-- the numbers behind the first one
pub numbers_behind : (text rest : List ℕ) (x : ℕ) → x < 2 ^ 64 → text ≡ decimal x ++ 46 ∷ rest
    → (n m : ℕ) (ns : List ℕ) → AreNumbers text (n ∷ m ∷ ns) → AreNumbers rest (m ∷ ns)
numbers_behind text rest x lt cut n m ns are =
    let split = split_once x n rest (dotted (m ∷ ns)) lt are.fit.0 (sym cut ∙ are.printed) in
    record { fit = are.fit.1; printed = split.1 }

pub one_number : (text : List ℕ) (a b : ℕ) → IsNumber text a → IsNumber text b → a ≡ b
one_number text a b is_a is_b = decimal_injective a b is_a.fits is_b.fits (sym is_a.printed ∙ is_b.printed)

-- a text has at most one list of so many numbers
pub one_list : (text : List ℕ) (ns ms : List ℕ) → length ns ≡ length ms → AreNumbers text ns → AreNumbers text ms → ns ≡ ms
one_list text [] [] len are_ns are_ms = refl
one_list text [] (m ∷ ms) len are_ns are_ms = absurd (omega arith)
one_list text (n ∷ ns) [] len are_ns are_ms = absurd (omega arith)
one_list text (n ∷ []) (m ∷ []) len are_ns are_ms =
    ap (λ (x : ℕ). x ∷ []) (one_number text n m (only_number text n are_ns) (only_number text m are_ms))
one_list text (n ∷ []) (m ∷ m' ∷ ms) len are_ns are_ms = absurd (omega arith)
one_list text (n ∷ n' ∷ ns) (m ∷ []) len are_ns are_ms = absurd (omega arith)
one_list text (n ∷ n' ∷ ns) (m ∷ m' ∷ ms) len are_ns are_ms =
    let split = split_once n m (dotted (n' ∷ ns)) (dotted (m' ∷ ms)) are_ns.fit.0 are_ms.fit.0 (sym are_ns.printed ∙ are_ms.printed) in
    let behind_ns : AreNumbers (dotted (n' ∷ ns)) (n' ∷ ns) = record { fit = are_ns.fit.1; printed = refl } in
    let behind_ms : AreNumbers (dotted (n' ∷ ns)) (m' ∷ ms) = record { fit = are_ms.fit.1; printed = split.1 } in
    let rest : n' ∷ ns ≡ m' ∷ ms = one_list (dotted (n' ∷ ns)) (n' ∷ ns) (m' ∷ ms) (omega arith) behind_ns behind_ms in
    let head : n ≡ m = split.0 in
    cc

-- the first number, and the others behind a dot each
pub dotted-cons : (n : ℕ) (ns : List ℕ) → dotted (n ∷ ns) ≡ decimal n ++ flat_map behind_dot ns
dotted-cons n [] = sym (append-nil (decimal n))
dotted-cons n (m ∷ ns) = ap (λ (t : List ℕ). decimal n ++ 46 ∷ t) (dotted-cons m ns)

-- an answer that is a number of the text wherever the text has one
pub number_found : (text : List ℕ) (answer : Option ℕ) → IfSome answer (IsNumber text) → IfNone answer ((n : ℕ) → ¬ (IsNumber text n))
    → (n : ℕ) → IsNumber text n → answer ≡ Some n
number_found text None found none n is = absurd (none n is)
number_found text (Some m) found none n is = ap (λ (x : ℕ). Some x) (one_number text m n found is)
