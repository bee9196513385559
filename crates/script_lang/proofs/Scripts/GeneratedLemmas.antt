-- The generated script, line by line, and that it is in its ranges.
use Rattle.std.proofs.Common.{◌≡◌, ℕ, suc, ◌+◌, ◌*◌, ◌%◌, ◌≤◌, ◌<◌, IsTrue, List, [], ◌∷◌, ◌++◌, length, map, refl, sym, ap, ◌∙◌, subst, append_assoc, arith}
use Rattle.std.proofs.lemmas.List.{length-append}
use Rattle.std.specs.Prelude.{All}
use Rattle.std.specs.List.{range_with_len}
use Rattle.std.specs.Fmt.{decimal}
use Rattle.std.specs.Int.{IsInRange}
use Rattle.std.specs.Str.Parse.{AllDigits, digits_value}
use Rattle.std.proofs.lemmas.Bool.Decides.{nat_tests}
use Rattle.std.proofs.lemmas.Fmt.{digits_decimal, length-decimal-le}
use Rattle.std.proofs.lemmas.List.Elements.{All-nil, All-cons, All-append, All-head, All-tail}
use Rattle.std.proofs.lemmas.List.FromFn.{length-map-range_with_len, map-range_with_len_more, get_or-map-range_with_len}
use Rattle.std.proofs.lemmas.Str.Parse.{IsNumeralModel, numerals_by_value, tells_digits}
use Rattle.plfs_types.specs.Names.{is_name_byte, IsLogicalName}
use Rattle.script_lang.specs.declared.script.Numbered.{Numbered}
use Rattle.script_lang.specs.declared.script.Phase.{Phase}
use Rattle.script_lang.specs.declared.script.Statement.TheVariants.{Open, Write, Close, Ropen, Verify, Stat}
use Rattle.script_lang.specs.Generated.{file_of, writer, block_place, block, Said, said, opens, writes, closes, verifies, checks, on_lines, in_phases, generated}
use Rattle.script_lang.specs.Ranges.{FitsActor, FitsNumbered, FitsPhase, FitsScript, FitsStatement, FitsTurned}

-- ---- names

own : IsNumeralModel (AllDigits 10) (digits_value 10)
own = numerals_by_value (AllDigits 10) tells_digits

digit_is_name : (b : ℕ) → IsInRange 48 57 b → IsTrue (is_name_byte b)
digit_is_name b within = grind (arith, nat_tests)

digits_are_names : (digits : List ℕ) → AllDigits 10 digits → All (λ b. IsTrue (is_name_byte b)) digits
digits_are_names [] all = All-nil (λ b. IsTrue (is_name_byte b))
digits_are_names (b ∷ bs) all =
    let parts = tells_digits.parts b bs all in
    All-cons (λ b. IsTrue (is_name_byte b)) b bs (digit_is_name b parts.0) (digits_are_names bs parts.1)

-- a number of up to three digits
pub three_digits : (n : ℕ) → n ≤ 256 → length (decimal n) ≤ 3
three_digits n few = length-decimal-le 3 n (omega arith) (omega (arith, few)) (omega (arith, few))

pub is_file_name : (n : ℕ) → n ≤ 256 → IsLogicalName (file_of n)
is_file_name n few =
    let short = three_digits n few in
    let P : ℕ → Type 0 = λ b. IsTrue (is_name_byte b) in
    record {
      not_empty = omega arith;
      short = omega (arith, short);
      bytes = All-cons P 103 (101 ∷ 110 ∷ decimal n) refl (All-cons P 101 (110 ∷ decimal n) refl (All-cons P 110 (decimal n) refl (digits_are_names (decimal n) (digits_decimal own n (omega (arith, few))))));
      no_dot = λ is. omega (arith, is);
      no_dash = λ is. omega (arith, is);
    }

-- ---- lines

pub lines_both : (line : ℕ) (xs ys : List Said) → on_lines line (xs ++ ys) ≡ on_lines line xs ++ on_lines (line + length xs) ys
lines_both line [] ys = ap (λ n. on_lines n ys) (let e : line ≡ line + 0 = omega arith in e)
lines_both line (x ∷ xs) ys =
    let there : (line + 1) + length xs ≡ line + suc (length xs) = omega arith in
    let first : Numbered = record { line = line; actor = x.actor; statement = x.statement } in
    ap (λ z. first ∷ z) (lines_both (line + 1) xs ys ∙ ap (λ n. on_lines (line + 1) xs ++ on_lines n ys) there)

pub length_lines : (line : ℕ) (xs : List Said) → length (on_lines line xs) ≡ length xs
length_lines line [] = refl
length_lines line (x ∷ xs) = ap suc (length_lines (line + 1) xs)

-- where these and so many of a range stand on their lines, one more of the range comes behind them
pub one_line_more : (front : List Said) (f : ℕ → Said) (line n : ℕ) (list : List Numbered) → list ≡ on_lines line (front ++ map f (range_with_len 0 n))
    → list ++ on_lines (line + length list) (f n ∷ []) ≡ on_lines line (front ++ map f (range_with_len 0 (n + 1)))
one_line_more front f line n list is =
    let so_far = front ++ map f (range_with_len 0 n) in
    let more : front ++ map f (range_with_len 0 (n + 1)) ≡ so_far ++ f n ∷ [] =
    ap (λ z. front ++ z) (map-range_with_len_more f 0 n n (omega arith)) ∙ sym (append_assoc front (map f (range_with_len 0 n)) (f n ∷ [])) in
    let long : length list ≡ length so_far = ap length is ∙ length_lines line so_far in
    (λ i. is i ++ on_lines (line + long i) (f n ∷ [])) ∙ (sym (lines_both line so_far (f n ∷ [])) ∙ ap (on_lines line) (sym more))

-- how many these are
pub lines_so_far : (front : List Said) (f : ℕ → Said) (line n : ℕ) (list : List Numbered) → list ≡ on_lines line (front ++ map f (range_with_len 0 n)) → length list ≡ length front + n
lines_so_far front f line n list is =
    ap length is ∙ (length_lines line (front ++ map f (range_with_len 0 n)) ∙ (length-append front (map f (range_with_len 0 n)) ∙ ap (λ m. length front + m) (length-map-range_with_len f 0 n)))

-- one statement more was said
pub says_more : (front : List Said) (f : ℕ → Said) (first line n : ℕ) (old new : List Numbered) (x : Said) → line ≡ first → old ≡ on_lines first (front ++ map f (range_with_len 0 n))
    → new ≡ old ++ on_lines (line + length old) (x ∷ []) → x ≡ f n → new ≡ on_lines first (front ++ map f (range_with_len 0 (n + 1)))
says_more front f first line n old new x same is more last =
    more ∙ ((λ i. old ++ on_lines (same i + length old) (last i ∷ [])) ∙ one_line_more front f first n old is)

-- and a last one behind the range
pub says_last : (front : List Said) (f : ℕ → Said) (first line n m : ℕ) (old new : List Numbered) (x : Said) → line ≡ first → old ≡ on_lines first (front ++ map f (range_with_len 0 n)) → n ≡ m
    → new ≡ old ++ on_lines (line + length old) (x ∷ []) → new ≡ on_lines first ((front ++ map f (range_with_len 0 m)) ++ x ∷ [])
says_last front f first line n m old new x same is all more =
    let said_all = front ++ map f (range_with_len 0 m) in
    let whole : old ≡ on_lines first said_all = is ∙ ap (λ z. on_lines first (front ++ map f (range_with_len 0 z))) all in
    let long : length old ≡ length said_all = ap length whole ∙ length_lines first said_all in
    more ∙ ((λ i. whole i ++ on_lines (same i + long i) (x ∷ [])) ∙ sym (lines_both first said_all (x ∷ [])))

-- ---- phases

abbrev pub phase_of : List Numbered → Phase
phase_of statements = record { turns = []; statements = statements }

-- these four lists on their lines are the phases
phases_are : (n w m : ℕ) (a b c d : List Numbered) → w ≡ n → m ≡ 32 * n → a ≡ on_lines (w + 1) (opens n) → b ≡ on_lines (2 * w + 2) (writes n) → c ≡ on_lines (2 * w + m + 3) (closes n) → d ≡ on_lines (3 * w + m + 4) (checks n)
    → phase_of a ∷ phase_of b ∷ phase_of c ∷ phase_of d ∷ [] ≡ in_phases (n + 1) (opens n ∷ writes n ∷ closes n ∷ checks n ∷ [])
phases_are n w m a b c d few many a_is b_is c_is d_is =
    let opened : length (opens n) ≡ n = length-map-range_with_len (λ i. said i (Open (file_of n))) 0 n in
    let wrote : length (writes n) ≡ 32 * n = length-map-range_with_len (λ k. said (k % n) (Write (block_place k) (block n k))) 0 (32 * n) in
    let closed : length (closes n) ≡ n = length-map-range_with_len (λ i. said i Close) 0 n in
    let first : w + 1 ≡ n + 1 = omega (arith, few) in
    let second : 2 * w + 2 ≡ (n + 1) + length (opens n) + 1 = omega (arith, few, opened) in
    let third : 2 * w + m + 3 ≡ ((n + 1) + length (opens n) + 1) + length (writes n) + 1 = omega (arith, few, many, opened, wrote) in
    let fourth : 3 * w + m + 4 ≡ (((n + 1) + length (opens n) + 1) + length (writes n) + 1) + length (closes n) + 1 = omega (arith, few, many, opened, wrote, closed) in
    let a_there = a_is ∙ ap (λ z. on_lines z (opens n)) first in
    let b_there = b_is ∙ ap (λ z. on_lines z (writes n)) second in
    let c_there = c_is ∙ ap (λ z. on_lines z (closes n)) third in
    let d_there = d_is ∙ ap (λ z. on_lines z (checks n)) fourth in
    λ i. phase_of (a_there i) ∷ phase_of (b_there i) ∷ phase_of (c_there i) ∷ phase_of (d_there i) ∷ []

-- four phases were put one behind the other
four_in_all : (l0 l1 l2 l3 l4 : List Phase) (p q r s : Phase) → l0 ≡ [] → l1 ≡ l0 ++ p ∷ [] → l2 ≡ l1 ++ q ∷ [] → l3 ≡ l2 ++ r ∷ [] → l4 ≡ l3 ++ s ∷ [] → l4 ≡ p ∷ q ∷ r ∷ s ∷ []
four_in_all l0 l1 l2 l3 l4 p q r s none first second third fourth =
    let one : l1 ≡ p ∷ [] = first ∙ ap (λ z. z ++ p ∷ []) none in
    let two : l2 ≡ p ∷ q ∷ [] = second ∙ ap (λ z. z ++ q ∷ []) one in
    let three : l3 ≡ p ∷ q ∷ r ∷ [] = third ∙ ap (λ z. z ++ r ∷ []) two in
    fourth ∙ ap (λ z. z ++ s ∷ []) three

pub all_phases : (n w m : ℕ) (a b c d : List Numbered) (l0 l1 l2 l3 l4 : List Phase) (p q r s : Phase) → w ≡ n → m ≡ 32 * n
    → a ≡ on_lines (w + 1) (opens n) → b ≡ on_lines (2 * w + 2) (writes n) → c ≡ on_lines (2 * w + m + 3) (closes n) → d ≡ on_lines (3 * w + m + 4) (checks n)
    → p ≡ phase_of a → q ≡ phase_of b → r ≡ phase_of c → s ≡ phase_of d
    → l0 ≡ [] → l1 ≡ l0 ++ p ∷ [] → l2 ≡ l1 ++ q ∷ [] → l3 ≡ l2 ++ r ∷ [] → l4 ≡ l3 ++ s ∷ [] → l4 ≡ in_phases (n + 1) (opens n ∷ writes n ∷ closes n ∷ checks n ∷ [])
all_phases n w m a b c d l0 l1 l2 l3 l4 p q r s few many a_is b_is c_is d_is p_is q_is r_is s_is none first second third fourth =
    four_in_all l0 l1 l2 l3 l4 p q r s none first second third fourth
    ∙ ((λ i. p_is i ∷ q_is i ∷ r_is i ∷ s_is i ∷ []) ∙ phases_are n w m a b c d few many a_is b_is c_is d_is)

-- ---- ranges

-- what holds of each below holds of all of a range
all_range : {X : Type 0} (P : X → Type 0) (f : ℕ → X) (n : ℕ) → ((k : ℕ) → k < n → P (f k)) → All P (map f (range_with_len 0 n))
all_range {X} P f n each = λ k d lt.
    let less : k < n = omega (arith, lt, length-map-range_with_len f 0 n) in
    subst P (sym (get_or-map-range_with_len f 0 n k k d less (let same : 0 + k ≡ k = omega arith in same))) (each k less)

abbrev IsFitSaid : ℕ → Said → Type 0
IsFitSaid n s = (s.actor < n) × FitsStatement s.statement

fit_lines : (n line : ℕ) (xs : List Said) → All (IsFitSaid n) xs → All (FitsNumbered n) (on_lines line xs)
fit_lines n line [] all = All-nil (FitsNumbered n)
fit_lines n line (x ∷ xs) all =
    let first : IsFitSaid n x = All-head (IsFitSaid n) x xs all in
    All-cons (FitsNumbered n) (record { line = line; actor = x.actor; statement = x.statement }) (on_lines (line + 1) xs) first (fit_lines n (line + 1) xs (All-tail (IsFitSaid n) x xs all))

fit_phase : (n line : ℕ) (xs : List Said) → All (IsFitSaid n) xs → FitsPhase n (phase_of (on_lines line xs))
fit_phase n line xs all = record { turned = All-nil (FitsTurned n); numbered = fit_lines n line xs all }

fit_phases : (n line : ℕ) (phases : List (List Said)) → All (λ xs. All (IsFitSaid n) xs) phases → All (FitsPhase n) (in_phases line phases)
fit_phases n line [] all = All-nil (FitsPhase n)
fit_phases n line (xs ∷ phases) all =
    let P : List Said → Type 0 = λ xs. All (IsFitSaid n) xs in
    All-cons (FitsPhase n) (phase_of (on_lines line xs)) (in_phases (line + length xs + 1) phases) (fit_phase n line xs (All-head P xs phases all)) (fit_phases n (line + length xs + 1) phases (All-tail P xs phases all))

fit_checks : (n : ℕ) → 1 ≤ n → All (IsFitSaid n) (checks n)
fit_checks n some =
    let P = IsFitSaid n in
    let last = said 0 (Stat (file_of n)) in
    All-cons P (said 0 (Ropen (file_of n) 4)) (verifies n ++ last ∷ []) (omega (arith, some), (omega arith, omega arith))
    (All-append P (verifies n) (last ∷ []) (all_range P (λ k. said 0 (Verify (block_place k) (block n k))) (32 * n) (λ k less. (omega (arith, some), omega arith)))
    (All-cons P last [] (omega (arith, some), tt) (All-nil P)))

mod_below : (k n : ℕ) → 1 ≤ n → k % n < n
mod_below k n some = omega (arith, some)

pub generated_fits : (n : ℕ) → 1 ≤ n → n ≤ 256 → FitsScript (generated n)
generated_fits n some few =
    let P = IsFitSaid n in
    let Q : List Said → Type 0 = λ xs. All P xs in
    let opening : Q (opens n) = all_range P (λ i. said i (Open (file_of n))) n (λ k less. (less, tt)) in
    let writing : Q (writes n) = all_range P (λ k. said (k % n) (Write (block_place k) (block n k))) (32 * n) (λ k less. (mod_below k n some, omega arith)) in
    let closing : Q (closes n) = all_range P (λ i. said i Close) n (λ k less. (less, tt)) in
    let all : All Q (opens n ∷ writes n ∷ closes n ∷ checks n ∷ []) =
    All-cons Q (opens n) (writes n ∷ closes n ∷ checks n ∷ []) opening
    (All-cons Q (writes n) (closes n ∷ checks n ∷ []) writing (All-cons Q (closes n) (checks n ∷ []) closing (All-cons Q (checks n) [] (fit_checks n some) (All-nil Q)))) in
    let long : length (generated n).actors ≡ n = length-map-range_with_len writer 0 n in
    let Fits : ℕ → Type 0 = λ m. All (FitsPhase m) (generated n).phases in
    record {
      few = omega (arith, long, few);
      declared = all_range FitsActor writer n (λ k less. (omega arith, omega arith));
      begun = omega arith;
      phased = subst Fits (sym long) (fit_phases n (n + 1) (opens n ∷ writes n ∷ closes n ∷ checks n ∷ []) all);
    }
