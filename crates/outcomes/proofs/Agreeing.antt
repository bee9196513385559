-- What repeats agrees with data that repeats, where it begins so.
use Rattle.std.proofs.Common.{◌≡◌, ℕ, zero, suc, ◌+◌, ◌-◌, ◌*◌, ◌/◌, ◌%◌, ◌<◌, ◌≤◌, Bool, true, false, inl, inr, List, [], ◌∷◌, ◌++◌, length, map, take, drop, get_or, replicate, Option, None, Some, refl, sym, ap, ◌∙◌, arith, nat_eq, not, mul-suc, add-one}
use Rattle.std.specs.Prelude.{if◌then◌else◌, min}
use Rattle.std.specs.List.{range_with_len}
use Rattle.std.specs.Option.{is_some}
use Rattle.std.proofs.Math.Nat.{add-mod_right, add-mul-mod_self_left, div-add-mod, mul_assoc}
use Rattle.std.proofs.lemmas.Bool.{cases_lt, false≢true}
use Rattle.std.proofs.lemmas.Bool.Decides.{nat_tests}
use Rattle.std.proofs.lemmas.Option.{none-some}
use Rattle.std.proofs.lemmas.List.{get_or-drop, get_or-take, length-replicate, get_or-replicate, append-nil, append_assoc}
use Rattle.std.proofs.lemmas.List.FromFn.{get_or-map-range_with_len, length-map-range_with_len, map-range_with_len_more, take-map-range_with_len}
use Rattle.outcomes.specs.Data.{ramp_byte, first_difference, Repeats}

-- ---- nothing differs exactly where each byte is the one that is wanted

pub none_differs : (wanted found : List ℕ) (place : ℕ) → length wanted ≤ length found
    → ((j : ℕ) → j < length wanted → get_or found j 0 ≡ get_or wanted j 0) → first_difference place wanted found ≡ None
none_differs [] found place le same = refl
none_differs (b ∷ wanted) [] place le same = absurd (omega arith)
none_differs (b ∷ wanted) (c ∷ found) place le same =
    let here : c ≡ b = same 0 (omega arith) in
    let test : nat_eq b c ≡ true = grind (arith, nat_tests, here) in
    rw test (none_differs wanted found (place + 1) (omega arith) (λ j lt. same (suc j) (omega arith)))

both : (test : Bool) (rest : Option ℕ) (place : ℕ) → (if test then rest else Some place) ≡ None → (test ≡ true) × (rest ≡ None)
both true rest place none = (refl, none)
both false rest place none = absurd (none-some place (sym none))

one_byte : (b c : ℕ) → nat_eq b c ≡ true → c ≡ b
one_byte b c test = grind (arith, nat_tests)

pub agrees_at : (wanted found : List ℕ) (place : ℕ) → first_difference place wanted found ≡ None
    → (j : ℕ) → j < length wanted → get_or found j 0 ≡ get_or wanted j 0
agrees_at [] found place none j lt = absurd (omega arith)
agrees_at (b ∷ wanted) [] place none j lt = absurd (none-some place (sym none))
agrees_at (b ∷ wanted) (c ∷ found) place none zero lt = one_byte b c (both (nat_eq b c) (first_difference (place + 1) wanted found) place none).0
agrees_at (b ∷ wanted) (c ∷ found) place none (suc j) lt =
    agrees_at wanted found (place + 1) (both (nat_eq b c) (first_difference (place + 1) wanted found) place none).1 j (omega arith)

pub is_nothing : (difference : Option ℕ) (told : Bool) → is_some difference ≡ not told → told ≡ true → difference ≡ None
is_nothing None told is positive = refl
is_nothing (Some place) told is positive = absurd (false≢true (sym (is ∙ ap not positive)))

-- what begins with all that is wanted
pub begins_so : (wanted found : List ℕ) → length wanted ≤ length found → take (length wanted) found ≡ wanted → first_difference 0 wanted found ≡ None
begins_so wanted found le is =
    none_differs wanted found 0 le (λ j lt. sym (get_or-take (length wanted) found j 0 lt) ∙ ap (λ xs. get_or xs j 0) is)

-- ---- what repeats

repeats_at : (len period : ℕ) (found : List ℕ) → Repeats len period found → (j : ℕ) → j + period < len → get_or found (j + period) 0 ≡ get_or found j 0
repeats_at len period found is j lt =
    let within : j < len - period = omega (arith, lt) in
    ap (λ k. get_or found k 0) (omega arith) ∙ sym (get_or-drop period found j 0) ∙ sym (get_or-take (len - period) (drop period found) j 0 within)
    ∙ ap (λ xs. get_or xs j 0) is.1 ∙ get_or-take (len - period) found j 0 within

-- two that repeat are one where they begin alike
module _ (wanted found : List ℕ) (period len : ℕ) (some : 0 < period)
    (one : (j : ℕ) → j + period < len → get_or found (j + period) 0 ≡ get_or found j 0)
    (other : (j : ℕ) → j + period < len → get_or wanted (j + period) 0 ≡ get_or wanted j 0)
    (begins : (j : ℕ) → j < period → j < len → get_or found j 0 ≡ get_or wanted j 0) where
  alike_up_to : (most j : ℕ) → j ≤ most → j < len → get_or found j 0 ≡ get_or wanted j 0
  alike_up_to zero j le lt = begins j (omega (arith, some)) lt
  alike_up_to (suc most) j le lt = elim (cases_lt j period) [
    | inl under ↦ begins j under lt
    | inr past ↦
        let e : (j - period) + period ≡ j = omega (arith, past) in
        let within : (j - period) + period < len = omega (arith, past, lt) in
        ap (λ k. get_or found k 0) (sym e) ∙ one (j - period) within ∙ alike_up_to most (j - period) (omega (arith, some, past, le)) (omega (arith, lt))
        ∙ sym (other (j - period) within) ∙ ap (λ k. get_or wanted k 0) e
  ]

  pub alike : (j : ℕ) → j < len → get_or found j 0 ≡ get_or wanted j 0
  alike j lt = alike_up_to j j (omega arith) lt

within_both : (j len most : ℕ) → j < most → j < len → j < min len most
within_both j len most under lt = omega (arith, under, lt)

pub fill_agrees : (len byte : ℕ) (found : List ℕ) → Repeats len 1 found → first_difference 0 (replicate (min len 1) byte) found ≡ None
    → first_difference 0 (replicate len byte) found ≡ None
fill_agrees len byte found is none =
    let long : length (replicate len byte) ≡ len = length-replicate {A = ℕ} len byte in
    let short : length (replicate (min len 1) byte) ≡ min len 1 = length-replicate {A = ℕ} (min len 1) byte in
    none_differs (replicate len byte) found 0 (omega (arith, long, is.0))
    (λ j lt. alike (replicate len byte) found 1 len (omega arith) (repeats_at len 1 found is)
    (λ i lt. get_or-replicate len (i + 1) byte 0 lt ∙ sym (get_or-replicate len i byte 0 (omega (arith, lt))))
    (λ i under lt.
    let within = within_both i len 1 under lt in
    agrees_at (replicate (min len 1) byte) found 0 none i (omega (arith, within, short)) ∙ get_or-replicate (min len 1) i byte 0 within ∙ sym (get_or-replicate len i byte 0 lt))
    j (omega (arith, lt, long)))

-- ---- a ramp repeats

begins_again : (first j : ℕ) → ramp_byte first (j + 256) ≡ ramp_byte first j
begins_again first j = ap (λ n. n % 256) (omega arith) ∙ add-mod_right (first + j) 256

so_far : (first len j : ℕ) → j < len → get_or (map (ramp_byte first) (range_with_len 0 len)) j 0 ≡ ramp_byte first j
so_far first len j lt = get_or-map-range_with_len (ramp_byte first) 0 len j j 0 lt (omega arith)

pub ramp_agrees : (len first : ℕ) (found : List ℕ) → Repeats len 256 found → first_difference 0 (map (ramp_byte first) (range_with_len 0 (min len 256))) found ≡ None
    → first_difference 0 (map (ramp_byte first) (range_with_len 0 len)) found ≡ None
ramp_agrees len first found is none =
    let long : length (map (ramp_byte first) (range_with_len 0 len)) ≡ len = length-map-range_with_len (ramp_byte first) 0 len in
    let short : length (map (ramp_byte first) (range_with_len 0 (min len 256))) ≡ min len 256 = length-map-range_with_len (ramp_byte first) 0 (min len 256) in
    none_differs (map (ramp_byte first) (range_with_len 0 len)) found 0 (omega (arith, long, is.0))
    (λ j lt. alike (map (ramp_byte first) (range_with_len 0 len)) found 256 len (omega arith) (repeats_at len 256 found is)
    (λ i lt. so_far first len (i + 256) lt ∙ begins_again first i ∙ sym (so_far first len i (omega (arith, lt))))
    (λ i under lt.
    let within = within_both i len 256 under lt in
    agrees_at (map (ramp_byte first) (range_with_len 0 (min len 256))) found 0 none i (omega (arith, within, short)) ∙ so_far first (min len 256) i within ∙ sym (so_far first len i lt))
    j (omega (arith, lt, long)))

-- ---- a ramp is made by copies of its front

abbrev pub ramp_of : ℕ → ℕ → List ℕ
ramp_of first len = map (ramp_byte first) (range_with_len 0 len)

past_periods : (first periods j : ℕ) → ramp_byte first (256 * periods + j) ≡ ramp_byte first j
past_periods first periods j = ap (λ n. n % 256) (omega arith) ∙ add-mul-mod_self_left (first + j) 256 periods

ramp_on : (first periods more : ℕ) → ramp_of first (256 * periods + more) ≡ ramp_of first (256 * periods) ++ ramp_of first more
ramp_on first periods zero = ap (λ n. ramp_of first n) (omega arith) ∙ sym (append-nil (ramp_of first (256 * periods)))
ramp_on first periods (suc more) =
    let n = 256 * periods in
    let before : n + suc more ≡ (n + more) + 1 = omega arith in
    let after : more + 1 ≡ suc more = omega arith in
    ap (λ k. ramp_of first k) before ∙ map-range_with_len_more (ramp_byte first) 0 (n + more) (n + more) (omega arith)
    ∙ ap (λ xs. xs ++ ramp_byte first (n + more) ∷ []) (ramp_on first periods more) ∙ append_assoc (ramp_of first n) (ramp_of first more) (ramp_byte first (n + more) ∷ [])
    ∙ ap (λ b. ramp_of first n ++ (ramp_of first more ++ b ∷ [])) (past_periods first periods more)
    ∙ ap (λ xs. ramp_of first n ++ xs) (sym (map-range_with_len_more (ramp_byte first) 0 more more (omega arith)) ∙ ap (λ k. ramp_of first k) after)

-- a ramp of some length is that of its own
pub of_its_length : (xs : List ℕ) (first n : ℕ) → xs ≡ ramp_of first n → xs ≡ ramp_of first (length xs)
of_its_length xs first n is = is ∙ ap (λ k. ramp_of first k) (sym (ap length is ∙ length-map-range_with_len (ramp_byte first) 0 n))

module _ (first n : ℕ) (whole : n % 256 ≡ 0) where
  periods : n ≡ 256 * (n / 256)
  periods = omega (arith, whole)

  copied : (count : ℕ) → n * count ≡ 256 * (n / 256 * count)
  copied count = ap (λ m. m * count) periods ∙ mul_assoc 256 (n / 256) count

  on : (count more : ℕ) → ramp_of first (n * count) ++ ramp_of first more ≡ ramp_of first (n * count + more)
  on count more =
      ap (λ m. ramp_of first m ++ ramp_of first more) (copied count) ∙ sym (ramp_on first (n / 256 * count) more) ∙ ap (λ m. ramp_of first (m + more)) (sym (copied count))

  -- one copy more of a front of whole periods
  pub one_copy_more : (count : ℕ) → ramp_of first (n * count) ++ ramp_of first n ≡ ramp_of first (n * (count + 1))
  one_copy_more count = on count n ∙ ap (λ m. ramp_of first m) (sym (ap (λ m. n * m) (add-one count) ∙ omega (arith, mul-suc n count)))

  pub last_part : (len : ℕ) → len % n ≤ n → ramp_of first (n * (len / n)) ++ take (len % n) (ramp_of first n) ≡ ramp_of first len
  last_part len le =
      ap (λ xs. ramp_of first (n * (len / n)) ++ xs) (take-map-range_with_len (ramp_byte first) 0 n (len % n) le)
      ∙ on (len / n) (len % n) ∙ ap (λ k. ramp_of first k) (div-add-mod len n)
