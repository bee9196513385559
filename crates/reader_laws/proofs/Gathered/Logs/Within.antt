-- What bytes of an index dropping tell, beside a log of so many bytes.
use Rattle.std.proofs.Common.{◌≡◌, ℕ, zero, suc, ◌+◌, ◌-◌, ◌*◌, ◌≤◌, ◌<◌, ◌^◌, true, false, nat_le, List, [], ◌∷◌, ◌++◌, length, take, drop, refl, ap, sym, ◌∙◌, ◌⊎◌, inl, inr, subst, arith, append_assoc, length-take-le}
use Rattle.std.specs.Prelude.{if◌then◌else◌}
use Rattle.std.proofs.lemmas.Bool.{cases_lt}
use Rattle.std.proofs.lemmas.Bool.Decides.{nat_tests}
use Rattle.std.proofs.lemmas.List.{take-append-le, drop-append-le, drop-take, drop_at, length-drop, length-map, length-take}
use Rattle.std.proofs.Math.Seq.{take-append-add}
use Rattle.plfs_types.specs.declared.entries.Entry.{Entry}
use Rattle.index_entry.specs.Spelling.{spelling, spelling_all, entry_in, FitsPlaces}
use Rattle.index_entry.specs.Valid.{IsValidEntry}
use Rattle.index_entry.specs.Within.{within_log}
use Rattle.index_entry.proofs.Facts.{entries_format, length-spelling, length-spelling_all, spelling_all-append, take-spelling_all, drop-spelling_all, valid_fits_places}
use Rattle.mount_sound.specs.Entries.{MayFollow, AreEntriesOf, logged, last_stamp}
use Rattle.mount_sound.specs.Ledger.{Written, entries_in, AreWritesOf}
use Rattle.mount_sound.specs.Dropping.{EndPast, IsDropping}
use Rattle.mount_sound.proofs.Facts.{take_less, logged_take}

-- ---------- one entry

follows_fits : (writer last before : ℕ) (e : Entry) → writer < 2 ^ 64 → before < 2 ^ 64 → MayFollow writer last before e → FitsPlaces e
follows_fits writer last before e fits small f =
    let valid : IsValidEntry e = record { not_empty = f.some; near = f.within; stamped = omega (arith, f.later); stamp_fits = omega (arith, f.in_range) } in
    valid_fits_places e valid (omega (arith, f.place, small)) (omega (arith, f.owner, fits))

first_within : ℕ → ℕ → Entry → List ℕ → List Entry
first_within log n e rest = if nat_le (e.physical + e.len) log then e ∷ within_log log n rest else []

by_step : (log n : ℕ) (bytes : List ℕ) (e : Entry) (rest : List ℕ) → entry_in bytes ≡ e → drop 40 bytes ≡ rest → within_log log (suc n) bytes ≡ first_within log n e rest
unfolding first_within
by_step log n bytes e rest one others = ap (λ x. first_within log n x (drop 40 bytes)) one ∙ ap (first_within log n e) others

-- the first entry of the bytes is told where it ends within the log
first_told : (log writer last before n : ℕ) (e : Entry) (rest : List ℕ) → writer < 2 ^ 64 → before < 2 ^ 64 → MayFollow writer last before e → within_log log (suc n) (spelling e ++ rest) ≡ (if nat_le (before + e.len) log then e ∷ within_log log n rest else [])
unfolding first_within
first_told log writer last before n e rest fits small f =
    by_step log n (spelling e ++ rest) e rest (entries_format.again e rest (follows_fits writer last before e fits small f)) (drop_at (spelling e) rest 40 (length-spelling e))
    ∙ ap (λ p. if nat_le (p + e.len) log then e ∷ within_log log n rest else []) f.place

past_false : (a b : ℕ) → b < a → nat_le a b ≡ false
past_false a b l = grind (arith, nat_tests)

-- one that ends past the log tells nothing, nor what stands behind it
none_told : (log writer last before n : ℕ) (e : Entry) (rest : List ℕ) → writer < 2 ^ 64 → before < 2 ^ 64 → MayFollow writer last before e → log < before + e.len → within_log log n (spelling e ++ rest) ≡ []
none_told log writer last before zero e rest fits small f past = refl
none_told log writer last before (suc n) e rest fits small f past =
    first_told log writer last before n e rest fits small f ∙ ap (λ b. if b then e ∷ within_log log n rest else []) (past_false (before + e.len) log past)

-- ---------- entries in order

-- the first of these entries are told, and the next one ends past the log
pub record Stops (log before : ℕ) (es told : List Entry) : Type 0 where
  pub count : ℕ
  pub some_left : count < length es
  pub same : told ≡ take count es
  pub past : log < before + logged (take (suc count) es)

abbrev AllOrStops : ℕ → ℕ → List Entry → ℕ → List ℕ → List Entry → Type 0
AllOrStops log before es n rest told = (told ≡ es ++ within_log log n rest) ⊎ Stops log before es told

past_true : (a b : ℕ) → nat_le a b ≡ false → b < a
past_true a b e = grind (arith, nat_tests)

one_taken : (e : Entry) (es : List Entry) → logged (take 1 (e ∷ es)) ≡ e.len + 0
one_taken e [] = refl
one_taken e (x ∷ es) = refl

none_taken : (es : List Entry) → [] ≡ take 0 es
none_taken [] = refl
none_taken (e ∷ es) = refl

from_none : (n : ℕ) → 0 + n ≡ n
from_none n = omega arith

one_further : (n k : ℕ) → suc n + k ≡ suc (n + k)
one_further n k = omega arith

stops_later : (log before : ℕ) (e : Entry) (es told : List Entry) → Stops log (before + e.len) es told → Stops log before (e ∷ es) (e ∷ told)
stops_later log before e es told s = record {
  count = suc s.count;
  some_left = omega (arith, s.some_left);
  same = ap (λ l. e ∷ l) s.same;
  past = omega (arith, s.past);
}

-- Of entries in order and what stands behind them, all are told, or those up to the first that ends past the log.
pub told_from : (log writer last before n : ℕ) (es : List Entry) (rest : List ℕ) → writer < 2 ^ 64 → before + logged es < 2 ^ 64 → AreEntriesOf writer last before es → AllOrStops log before es n rest (within_log log (length es + n) (spelling_all es ++ rest))
told_from log writer last before n [] rest fits small o = inl (ap (λ k. within_log log k rest) (from_none n))
told_from log writer last before n (e ∷ es) rest fits small o =
    let behind : List ℕ = spelling_all es ++ rest in
    let told : List Entry = within_log log (length es + n) behind in
    let more : AllOrStops log (before + e.len) es n rest told = told_from log writer e.stamp (before + e.len) n es rest fits (omega (arith, small)) o.1 in
    let first : within_log log (length (e ∷ es) + n) (spelling_all (e ∷ es) ++ rest) ≡ (if nat_le (before + e.len) log then e ∷ told else []) =
    ap (λ k. within_log log k (spelling_all (e ∷ es) ++ rest)) (one_further (length es) n) ∙ ap (within_log log (suc (length es + n))) (append_assoc (spelling e) (spelling_all es) rest) ∙ first_told log writer last before (length es + n) e behind fits (omega (arith, small)) o.0 in
    subst (AllOrStops log before (e ∷ es) n rest) (sym first) (elim (nat_le (before + e.len) log) as (λ b. nat_le (before + e.len) log ≡ b → AllOrStops log before (e ∷ es) n rest (if b then e ∷ told else [])) [
      | true ↦ λ within. elim more as (λ _. AllOrStops log before (e ∷ es) n rest (e ∷ told)) [
        | inl all ↦ inl (ap (λ l. e ∷ l) all)
        | inr stop ↦ inr (stops_later log before e es told stop)
      ]
      | false ↦ λ past. inr (record { count = 0; some_left = omega arith; same = none_taken (e ∷ es); past = omega (arith, past_true (before + e.len) log past, one_taken e es) })
    ] refl)

-- ---------- bytes of an index dropping, from a place at which an entry stands that has landed

-- bytes that tell nothing, whatever stands behind them
abbrev pub TellNone : ℕ → List ℕ → Type 0
TellNone log bytes = (more : List ℕ) (n : ℕ) → within_log log n (bytes ++ more) ≡ []

-- so many bytes from there on are so many entries; or all that have landed from there on, and then less than one more, or
-- one that ends past the log
abbrev pub ReadsSoMany : ℕ → List Entry → ℕ → ℕ → ℕ → List ℕ → Type 0
ReadsSoMany log es landed first count read =
    ((first + count ≤ landed) × (read ≡ spelling_all (take count (drop first es))))
    ⊎ ((landed < first + count) × ((rest : List ℕ) × (read ≡ spelling_all (take (landed - first) (drop first es)) ++ rest) × ((length rest < 40) ⊎ TellNone log rest)))

behind_none : (log writer last before size n : ℕ) (more : List Entry) (tail : List ℕ) → writer < 2 ^ 64 → before < 2 ^ 64 → AreEntriesOf writer last before more → EndPast size before more → log ≤ size → length tail < 40 → 1 ≤ n
    → (length (take (40 * n) (spelling_all more ++ tail)) < 40) ⊎ TellNone log (take (40 * n) (spelling_all more ++ tail))
behind_none log writer last before size n [] tail fits small o past l torn some = inl (omega (arith, length-take (40 * n) tail, torn))
behind_none log writer last before size zero (e ∷ more) tail fits small o past l torn some = absurd (omega (arith, some))
behind_none log writer last before size (suc n) (e ∷ more) tail fits small o past l torn some = inr (λ others k.
    let behind : List ℕ = spelling_all more ++ tail in
    let len : 40 * suc n ≡ length (spelling e) + 40 * n = omega (arith, length-spelling e) in
    let split : take (40 * suc n) (spelling_all (e ∷ more) ++ tail) ≡ spelling e ++ take (40 * n) behind =
    ap (take (40 * suc n)) (append_assoc (spelling e) (spelling_all more) tail) ∙ ap (λ k. take k (spelling e ++ behind)) len ∙ take-append-add (spelling e) behind (40 * n) in
    ap (within_log log k) (ap (λ b. b ++ others) split ∙ append_assoc (spelling e) (take (40 * n) behind) others)
    ∙ none_told log writer last before k e (take (40 * n) behind ++ others) fits small o.0 (omega (arith, l, past)))

within_entries : (issued : List Written) (n : ℕ) → n ≤ length issued → n ≤ length (entries_in issued)
within_entries issued n l = omega (arith, l, length-map issued (λ (w : Written). w.entry))

pub reads_so_many : (log writer size landed first count : ℕ) (issued : List Written) (bytes : List ℕ) → IsDropping writer issued landed size bytes → writer < 2 ^ 64 → AreWritesOf writer issued → landed ≤ length issued → log ≤ size → first ≤ landed
    → ReadsSoMany log (entries_in issued) landed first count (take (40 * count) (drop (40 * first) bytes))
reads_so_many log writer size landed first count issued bytes d fits v within l from =
    let es : List Entry = entries_in issued in
    let front : List Entry = take landed es in
    let behind : List ℕ = spelling_all d.more ++ d.tail in
    let long : length front ≡ landed = length-take-le landed es (within_entries issued landed within) in
    let split : bytes ≡ spelling_all front ++ behind = d.spelled ∙ ap (λ b. b ++ d.tail) (spelling_all-append front d.more) ∙ append_assoc (spelling_all front) (spelling_all d.more) d.tail in
    let part : List Entry = take (landed - first) (drop first es) in
    let same : drop first front ≡ part = ap (λ n. drop first (take n es)) (rejoined first landed from) ∙ drop-take first (landed - first) es in
    let dropped : drop (40 * first) bytes ≡ spelling_all part ++ behind =
    ap (drop (40 * first)) split ∙ drop-append-le (40 * first) (spelling_all front) behind (omega (arith, length-spelling_all front, long, from))
    ∙ ap (λ b. b ++ behind) (drop-spelling_all first front ∙ ap spelling_all same) in
    let count_is : length (spelling_all part) ≡ 40 * (landed - first) = length-spelling_all part ∙ ap (λ n. 40 * n) (ap length (sym same) ∙ length-drop first front ∙ ap (λ n. n - first) long) in
    let small : logged front < 2 ^ 64 = omega (arith, v.small, logged_take landed es) in
    elim (cases_lt landed (first + count)) as (λ _. ReadsSoMany log es landed first count (take (40 * count) (drop (40 * first) bytes))) [
      | inl past ↦
          let n : ℕ = first + count - landed in
          let len : 40 * count ≡ length (spelling_all part) + 40 * n = omega (arith, count_is, past, from) in
          inr (
            past,
            (
              take (40 * n) behind,
              ap (take (40 * count)) dropped ∙ ap (λ k. take k (spelling_all part ++ behind)) len ∙ take-append-add (spelling_all part) behind (40 * n),
              behind_none log writer (last_stamp 0 front) (logged front) size n d.more d.tail fits small d.in_order d.past l d.torn (omega (arith, past)),
            ),
          )
      | inr all ↦
          inl (
            omega (arith, all),
            ap (take (40 * count)) dropped ∙ take-append-le (40 * count) (spelling_all part) behind (omega (arith, count_is, all, from))
                ∙ take-spelling_all count part ∙ ap spelling_all (take_less count (landed - first) (drop first es) (omega (arith, all, from))),
          )
    ]
  where
    rejoined : (a b : ℕ) → a ≤ b → b ≡ a + (b - a)
    rejoined a b l = omega (arith, l)
