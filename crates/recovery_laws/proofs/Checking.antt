-- Checking entries of an index dropping part by part comes to the same as checking them at once.
use Rattle.std.proofs.Common.{◌≡◌, ℕ, zero, suc, ◌+◌, ◌-◌, ◌*◌, ◌/◌, ◌≤◌, ◌<◌, min, Bool, true, false, nat_le, List, [], ◌∷◌, length, take, drop, refl, ap, sym, ◌∙◌, ◌⊎◌, inl, inr, subst, arith}
use Rattle.std.specs.Prelude.{◌≢◌, if◌then◌else◌}
use Rattle.std.specs.Int.{w64, from_le_bytes}
use Rattle.std.proofs.lemmas.Bool.{cases_Bool, cases_lt, cond-true, cond-false}
use Rattle.std.proofs.lemmas.List.{drop-drop, drop-take, length-drop, length-take, take_all}
use Rattle.plfs_types.specs.declared.entries.Entry.{Entry}
use Rattle.index_entry.specs.Spelling.{entry_in, number_in}
use Rattle.index_entry.specs.Within.{within_log}
use Rattle.mount_model.specs.Entries.{is_next}
use Rattle.mount_sound.proofs.Facts.{take_less}
use Rattle.torn_tail.specs.Entries.{no_entries, longer, checked, looked}
use Rattle.torn_tail.specs.Words.{Went, Run, all_there, ends, breaks}
use Rattle.recovery_laws.specs.Counting.{TellsOf}
use Rattle.recovery_laws.proofs.Counting.{came, run_of, tells_of, went_of}

-- ---- how it goes on with one entry

abbrev fits_in : ℕ → List ℕ → Bool
fits_in log bytes = nat_le ((entry_in bytes).physical + (entry_in bytes).len) log

abbrev Goes : ℕ → List ℕ → Run → Type 0
Goes log bytes run =
    (((n : ℕ) → checked log (suc n) bytes run ≡ checked log n (drop 40 bytes) (longer (entry_in bytes) run)) × (fits_in log bytes ≡ true))
    ⊎ ((n : ℕ) → checked log (suc n) bytes run ≡ came ends run)
    ⊎ ((n : ℕ) → checked log (suc n) bytes run ≡ came breaks run)

goes : (log : ℕ) (bytes : List ℕ) (run : Run) → Goes log bytes run
goes log bytes run =
    let e : Entry = entry_in bytes in
    elim (cases_Bool (is_next run.cover e)) as (λ _. Goes log bytes run) [
      | inl next ↦ elim (cases_Bool (fits_in log bytes)) as (λ _. Goes log bytes run) [
        | inl fits ↦ inl (
          λ n. cond-true (is_next run.cover e) (if fits_in log bytes then checked log n (drop 40 bytes) (longer e run) else came ends run) (came breaks run) next ∙ cond-true (fits_in log bytes) (checked log n (drop 40 bytes) (longer e run)) (came ends run) fits,
          fits,
        )
        | inr past ↦ inr (inl (λ n. cond-true (is_next run.cover e) (if fits_in log bytes then checked log n (drop 40 bytes) (longer e run) else came ends run) (came breaks run) next ∙ cond-false (fits_in log bytes) (checked log n (drop 40 bytes) (longer e run)) (came ends run) past))
      ]
      | inr other ↦ inr (inr (λ n. cond-false (is_next run.cover e) (if fits_in log bytes then checked log n (drop 40 bytes) (longer e run) else came ends run) (came breaks run) other))
    ]

not_ends : (a b : Run) → came ends a ≡ came all_there b → ⊥
not_ends a b e = let clash : ends ≡ all_there = went_of ends a all_there b e in absurd cc

not_breaks : (a b : Run) → came breaks a ≡ came all_there b → ⊥
not_breaks a b e = let clash : breaks ≡ all_there = went_of breaks a all_there b e in absurd cc

breaks_not_ends : (a b : Run) → came breaks a ≡ came ends b → ⊥
breaks_not_ends a b e = let clash : breaks ≡ ends = went_of breaks a ends b e in absurd cc

there_not_ends : (a b : Run) → came all_there a ≡ came ends b → ⊥
there_not_ends a b e = let clash : all_there ≡ ends = went_of all_there a ends b e in absurd cc

-- ---- part by part

further : (k n : ℕ) → suc k + n ≡ suc (k + n)
further k n = omega arith

by_forty : (k : ℕ) → 40 + 40 * k ≡ 40 * suc k
by_forty k = omega arith

from_none : (n : ℕ) → 0 + n ≡ n
from_none n = omega arith

no_drop : (k : ℕ) (bytes : List ℕ) → k ≡ 0 → bytes ≡ drop k bytes
no_drop k bytes e = sym (ap (λ n. drop n bytes) e)

-- after the first ones the others are checked
pub checked_more : (log k n : ℕ) (bytes : List ℕ) (first run : Run) → checked log k bytes first ≡ came all_there run → checked log (k + n) bytes first ≡ checked log n (drop (40 * k) bytes) run
checked_more log zero n bytes first run h =
    ap (λ m. checked log m bytes first) (from_none n) ∙ ap (checked log n bytes) (run_of all_there first all_there run h) ∙ ap (λ b. checked log n b run) (no_drop (40 * 0) bytes (omega arith))
checked_more log (suc k) n bytes first run h = elim (goes log bytes first) as (λ _. checked log (suc k + n) bytes first ≡ checked log n (drop (40 * suc k) bytes) run) [
  | inl (on, fits) ↦
      ap (λ m. checked log m bytes first) (further k n) ∙ on (k + n)
      ∙ checked_more log k n (drop 40 bytes) (longer (entry_in bytes) first) run (sym (on k) ∙ h)
      ∙ ap (λ b. checked log n b run) (drop-drop (40 * k) 40 bytes ∙ ap (λ m. drop m bytes) (by_forty k))
  | inr (inl e) ↦ absurd (not_ends first run (sym (e k) ∙ h))
  | inr (inr e) ↦ absurd (not_breaks first run (sym (e k) ∙ h))
]

-- where one ends past the log, so it is with more of them
pub checked_ended : (log k n : ℕ) (bytes : List ℕ) (first run : Run) → checked log k bytes first ≡ came ends run → k ≤ n → checked log n bytes first ≡ came ends run
checked_ended log zero n bytes first run h l = absurd (there_not_ends first run h)
checked_ended log (suc k) zero bytes first run h l = absurd (omega (arith, l))
checked_ended log (suc k) (suc n) bytes first run h l = elim (goes log bytes first) as (λ _. checked log (suc n) bytes first ≡ came ends run) [
  | inl (on, fits) ↦ on n ∙ checked_ended log k n (drop 40 bytes) (longer (entry_in bytes) first) run (sym (on k) ∙ h) (omega (arith, l))
  | inr (inl e) ↦ e n ∙ sym (e k) ∙ h
  | inr (inr e) ↦ absurd (breaks_not_ends first run (sym (e k) ∙ h))
]

-- all that are there count
pub all_count : (log k n : ℕ) (bytes : List ℕ) (first run : Run) → checked log k bytes first ≡ came all_there run → k ≤ n → k ≤ length (within_log log n bytes)
all_count log zero n bytes first run h l = omega arith
all_count log (suc k) zero bytes first run h l = absurd (omega (arith, l))
all_count log (suc k) (suc n) bytes first run h l = elim (goes log bytes first) as (λ _. suc k ≤ length (within_log log (suc n) bytes)) [
  | inl (on, fits) ↦
      let more = all_count log k n (drop 40 bytes) (longer (entry_in bytes) first) run (sym (on k) ∙ h) (omega (arith, l)) in
      omega (arith, more, ap length (cond-true (fits_in log bytes) (entry_in bytes ∷ within_log log n (drop 40 bytes)) [] fits))
  | inr (inl e) ↦ absurd (not_ends first run (sym (e k) ∙ h))
  | inr (inr e) ↦ absurd (not_breaks first run (sym (e k) ∙ h))
]

none_taken : (es : List Entry) → [] ≡ take 0 es
none_taken [] = refl
none_taken (e ∷ es) = refl

-- of fewer entries the first count
pub within_front : (log k n : ℕ) (bytes : List ℕ) → k ≤ n → within_log log k bytes ≡ take k (within_log log n bytes)
within_front log zero n bytes l = none_taken (within_log log n bytes)
within_front log (suc k) zero bytes l = absurd (omega (arith, l))
within_front log (suc k) (suc n) bytes l =
    let e : Entry = entry_in bytes in
    elim (cases_Bool (fits_in log bytes)) as (λ _. within_log log (suc k) bytes ≡ take (suc k) (within_log log (suc n) bytes)) [
      | inl fits ↦
          cond-true (fits_in log bytes) (e ∷ within_log log k (drop 40 bytes)) [] fits
          ∙ ap (λ es. e ∷ es) (within_front log k n (drop 40 bytes) (omega (arith, l)))
          ∙ ap (λ es. take (suc k) es) (sym (cond-true (fits_in log bytes) (e ∷ within_log log n (drop 40 bytes)) [] fits))
      | inr past ↦
          cond-false (fits_in log bytes) (e ∷ within_log log k (drop 40 bytes)) [] past
          ∙ ap (λ es. take (suc k) es) (sym (cond-false (fits_in log bytes) (e ∷ within_log log n (drop 40 bytes)) [] past))
    ]

-- ---- of a part of the bytes

front_again : (place n m : ℕ) (xs : List ℕ) → place + n ≤ m → take n (drop place (take m xs)) ≡ take n (drop place xs)
front_again place n m xs l =
    let rest : m ≡ place + (m - place) = omega (arith, l) in
    ap (λ k. take n (drop place (take k xs))) rest ∙ ap (λ ys. take n ys) (drop-take place (m - place) xs) ∙ take_less n (m - place) (drop place xs) (omega (arith, l))

number_again : (place m : ℕ) (bytes : List ℕ) → place + 8 ≤ m → number_in place (take m bytes) ≡ number_in place bytes
number_again place m bytes l = ap (from_le_bytes w64) (front_again place 8 m bytes l)

entry_again : (m : ℕ) (bytes : List ℕ) → 40 ≤ m → entry_in (take m bytes) ≡ entry_in bytes
unfolding entry_in
entry_again m bytes l = λ i. record {
  at = number_again 0 m bytes (omega (arith, l)) i;
  len = number_again 8 m bytes (omega (arith, l)) i;
  physical = number_again 16 m bytes (omega (arith, l)) i;
  stamp = number_again 24 m bytes (omega (arith, l)) i;
  writer = number_again 32 m bytes (omega (arith, l)) i;
}

abbrev checks : ℕ → Run → Entry → Went × Run → Went × Run
checks log run e on = if is_next run.cover e then (if nat_le (e.physical + e.len) log then on else came ends run) else came breaks run

-- the bytes of so many entries are enough for them
pub checked_front : (log n m : ℕ) (bytes : List ℕ) (run : Run) → 40 * n ≤ m → checked log n (take m bytes) run ≡ checked log n bytes run
checked_front log zero m bytes run l = refl
checked_front log (suc n) m bytes run l =
    let split : m ≡ 40 + (m - 40) = omega (arith, l) in
    let rest : drop 40 (take m bytes) ≡ take (m - 40) (drop 40 bytes) = ap (λ k. drop 40 (take k bytes)) split ∙ drop-take 40 (m - 40) bytes in
    ap (λ e. checks log run e (checked log n (drop 40 (take m bytes)) (longer e run))) (entry_again m bytes (omega (arith, l)))
    ∙ ap (λ b. checks log run (entry_in bytes) (checked log n b (longer (entry_in bytes) run))) rest
    ∙ ap (checks log run (entry_in bytes)) (checked_front log n (m - 40) (drop 40 bytes) (longer (entry_in bytes) run) (omega (arith, l)))

-- ---- a Read of some entries that are left

module _ (log told writer : ℕ) (all : List ℕ) (long : length all ≡ told) where
  -- the entries that count
  abbrev pub counting : List Entry
  counting = within_log log (told / 40) all

  -- what was checked before so many entries that are left, where none ended past the log, or one did
  abbrev pub IsSoFar : Bool → ℕ → Run → Type 0
  IsSoFar true left run = checked log (told / 40) all (no_entries writer) ≡ came ends run
  IsSoFar false left run = checked log (told / 40 - left) all (no_entries writer) ≡ came all_there run

  -- they were cut to the entries that count, or not
  abbrev pub IsCutOrNot : List ℕ → Type 0
  IsCutOrNot now = (now ≡ all) ⊎ (now ≡ take (40 * length counting) all)

  wholes : 40 * (told / 40) ≤ told
  wholes = omega arith

  few_counting : (n : ℕ) (bytes : List ℕ) → length (within_log log n bytes) ≤ n
  few_counting zero bytes = omega arith
  few_counting (suc n) bytes = elim (cases_Bool (fits_in log bytes)) as (λ _. length (within_log log (suc n) bytes) ≤ suc n) [
    | inl fits ↦ omega (arith, few_counting n (drop 40 bytes), ap length (cond-true (fits_in log bytes) (entry_in bytes ∷ within_log log n (drop 40 bytes)) [] fits))
    | inr past ↦ omega (arith, ap length (cond-false (fits_in log bytes) (entry_in bytes ∷ within_log log n (drop 40 bytes)) [] past))
  ]

  pub counting_fits : 40 * length counting ≤ told
  counting_fits = omega (arith, few_counting (told / 40) all, wholes)

  -- where all were checked it tells of those that count
  pub ended_tells : (run : Run) → IsSoFar true 0 run → TellsOf writer run counting
  ended_tells run h = tells_of writer log (told / 40) all ends run h (λ e. absurd cc)

  pub none_left_tells : (run : Run) → IsSoFar false 0 run → TellsOf writer run counting
  none_left_tells run h = tells_of writer log (told / 40) all all_there run (ap (λ n. checked log n all (no_entries writer)) (no_minus (told / 40)) ∙ h) (λ e. absurd cc)
    where
      no_minus : (n : ℕ) → n ≡ n - 0
      no_minus n = omega arith

  module _ (left next : ℕ) (is : next ≡ min left 4096) (within : left ≤ told / 40) (run : Run) (sofar : IsSoFar false left run) (now bytes : List ℕ) (cut : IsCutOrNot now) (read : bytes ≡ take (40 * next) (drop (40 * (told / 40 - left)) now)) where
    before : ℕ
    before = told / 40 - left

    most : length bytes ≤ 40 * next
    most = omega (arith, ap length read, length-take (40 * next) (drop (40 * (told / 40 - left)) now))

    tells_next : (m : ℕ) → 40 * m ≤ length bytes → 40 * m ≤ 40 * next → ((n : ℕ) → 40 * n ≤ 40 * m → bytes ≡ take (40 * m) (drop (40 * (told / 40 - left)) all)) → checked log m bytes run ≡ checked log (told / 40 - left + m) all (no_entries writer)
    tells_next m some few same =
        ap (λ b. checked log m b run) (same 0 (omega arith)) ∙ checked_front log m (40 * m) (drop (40 * (told / 40 - left)) all) run (omega arith)
        ∙ sym (checked_more log (told / 40 - left) m all (no_entries writer) run sofar)

    -- a full Read gives the next entries
    full_read : 40 * next ≤ length bytes → bytes ≡ take (40 * next) (drop (40 * (told / 40 - left)) all)
    full_read full = elim cut as (λ _. bytes ≡ take (40 * next) (drop (40 * (told / 40 - left)) all)) [
      | inl same ↦ read ∙ ap (λ b. take (40 * next) (drop (40 * (told / 40 - left)) b)) same
      | inr short ↦ elim (cases_lt 0 next) as (λ _. bytes ≡ take (40 * next) (drop (40 * (told / 40 - left)) all)) [
        | inl some ↦
            let cut_read : bytes ≡ take (40 * next) (drop (40 * (told / 40 - left)) (take (40 * length counting) all)) = read ∙ ap (λ b. take (40 * next) (drop (40 * (told / 40 - left)) b)) short in
            let enough : 40 * (told / 40 - left) + 40 * next ≤ 40 * length counting =
            omega (arith, full, some, ap length cut_read, length-take (40 * next) (drop (40 * (told / 40 - left)) (take (40 * length counting) all)), length-drop (40 * (told / 40 - left)) (take (40 * length counting) all), length-take (40 * length counting) all) in
            cut_read ∙ front_again (40 * (told / 40 - left)) (40 * next) (40 * length counting) all enough
        | inr none ↦
            let zero_next : 40 * next ≡ 0 = omega (arith, none) in
            read ∙ ap (λ n. take n (drop (40 * (told / 40 - left)) now)) zero_next ∙ no_bytes (drop (40 * (told / 40 - left)) now) (drop (40 * (told / 40 - left)) all) ∙ sym (ap (λ n. take n (drop (40 * (told / 40 - left)) all)) zero_next)
      ]
    ]
      where
        no_bytes : (a b : List ℕ) → take 0 a ≡ take 0 b
        no_bytes [] [] = refl
        no_bytes [] (y ∷ b) = refl
        no_bytes (x ∷ a) [] = refl
        no_bytes (x ∷ a) (y ∷ b) = refl

    pub full_checked : 40 * next ≤ length bytes → looked false log next bytes run ≡ checked log (told / 40 - (left - next)) all (no_entries writer)
    full_checked full =
        let count : min (length bytes / 40) next ≡ next = omega (arith, full, most) in
        let place : told / 40 - left + next ≡ told / 40 - (left - next) = omega (arith, is, within) in
        ap (λ n. checked log n bytes run) count ∙ tells_next next full (omega arith) (λ n l. full_read full) ∙ ap (λ n. checked log n all (no_entries writer)) place

    -- a short one gives those that count
    pub short_checked : length bytes < 40 * next → looked false log next bytes run ≡ checked log (length counting) all (no_entries writer)
    short_checked short = elim cut as (λ _. looked false log next bytes run ≡ checked log (length counting) all (no_entries writer)) [
      | inl same ↦ absurd (omega (arith, short, is, within, wholes, long, ap length (read ∙ ap (λ b. take (40 * next) (drop (40 * (told / 40 - left)) b)) same), length-take (40 * next) (drop (40 * (told / 40 - left)) all), length-drop (40 * (told / 40 - left)) all))
      | inr cuts ↦
          let there : told / 40 - left ≤ length counting = all_count log (told / 40 - left) (told / 40) all (no_entries writer) run sofar (omega arith) in
          let cut_read : bytes ≡ take (40 * next) (drop (40 * (told / 40 - left)) (take (40 * length counting) all)) = read ∙ ap (λ b. take (40 * next) (drop (40 * (told / 40 - left)) b)) cuts in
          let rest : ℕ = length counting - (told / 40 - left) in
          let split : 40 * length counting ≡ 40 * (told / 40 - left) + 40 * (length counting - (told / 40 - left)) = omega (arith, there) in
          let back : drop (40 * (told / 40 - left)) (take (40 * length counting) all) ≡ take (40 * (length counting - (told / 40 - left))) (drop (40 * (told / 40 - left)) all) =
          ap (λ n. drop (40 * (told / 40 - left)) (take n all)) split ∙ drop-take (40 * (told / 40 - left)) (40 * (length counting - (told / 40 - left))) all in
          let size : length (drop (40 * (told / 40 - left)) (take (40 * length counting) all)) ≡ 40 * (length counting - (told / 40 - left)) =
          omega (arith, there, long, counting_fits, length-drop (40 * (told / 40 - left)) (take (40 * length counting) all), length-take (40 * length counting) all) in
          let few : 40 * (length counting - (told / 40 - left)) ≤ 40 * next = omega (arith, short, size, ap length cut_read, length-take (40 * next) (drop (40 * (told / 40 - left)) (take (40 * length counting) all))) in
          let whole : bytes ≡ take (40 * (length counting - (told / 40 - left))) (drop (40 * (told / 40 - left)) all) =
          cut_read ∙ take_all (40 * next) (drop (40 * (told / 40 - left)) (take (40 * length counting) all)) (omega (arith, size, few)) ∙ back in
          let size_is : length bytes ≡ 40 * (length counting - (told / 40 - left)) = ap length whole ∙ ap length (sym back) ∙ size in
          let count : min (length bytes / 40) next ≡ length counting - (told / 40 - left) = omega (arith, size_is, few) in
          let place : told / 40 - left + (length counting - (told / 40 - left)) ≡ length counting = omega (arith, there) in
          ap (λ n. checked log n bytes run) count
          ∙ tells_next (length counting - (told / 40 - left)) (omega (arith, size_is)) few (λ n l. whole)
          ∙ ap (λ n. checked log n all (no_entries writer)) place
    ]

  -- which tells of them, where none breaks a rule
  pub short_tells : (went : Went) (run : Run) → checked log (length counting) all (no_entries writer) ≡ came went run → went ≢ breaks → TellsOf writer run counting
  short_tells went run h not =
      let same : within_log log (length counting) all ≡ counting = within_front log (length counting) (told / 40) all (few_counting (told / 40) all) ∙ take_all (length counting) counting (omega arith) in
      subst (TellsOf writer run) same (tells_of writer log (length counting) all went run h not)

-- ---- how a checking ends

abbrev pub Ending : Went × Run → Type 0
Ending p = ((run : Run) × (p ≡ came all_there run)) ⊎ ((run : Run) × (p ≡ came ends run)) ⊎ ((run : Run) × (p ≡ came breaks run))

checked_ending : (log n : ℕ) (bytes : List ℕ) (first : Run) → Ending (checked log n bytes first)
checked_ending log zero bytes first = inl (first, refl_of (came all_there first))
  where
    refl_of : (p : Went × Run) → p ≡ p
    refl_of p = λ i. p
checked_ending log (suc n) bytes first = elim (goes log bytes first) as (λ _. Ending (checked log (suc n) bytes first)) [
  | inl (on, fits) ↦ subst Ending (sym (on n)) (checked_ending log n (drop 40 bytes) (longer (entry_in bytes) first))
  | inr (inl e) ↦ inr (inl (first, e n))
  | inr (inr e) ↦ inr (inr (first, e n))
]

pub looked_ending : (past : Bool) (log asked : ℕ) (bytes : List ℕ) (run : Run) → Ending (looked past log asked bytes run)
looked_ending true log asked bytes run = inr (inl (run, λ i. came ends run))
looked_ending false log asked bytes run = checked_ending log _ bytes run
