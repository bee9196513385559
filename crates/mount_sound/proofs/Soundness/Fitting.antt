-- Entries that end within a log, and fronts of bytes that spell entries.
use Rattle.std.proofs.Common.{◌≡◌, ℕ, zero, suc, ◌+◌, ◌≤◌, ◌<◌, true, false, nat_le, List, [], ◌∷◌, ◌++◌, length, take, drop, refl, ap, sym, ◌∙◌, inl, inr, subst, arith}
use Rattle.std.specs.Prelude.{if◌then◌else◌}
use Rattle.std.specs.List.{flat_map, AllByRecursion}
use Rattle.std.proofs.lemmas.Bool.{cases_lt}
use Rattle.std.proofs.lemmas.Bool.Decides.{nat_tests}
use Rattle.plfs_types.specs.declared.entries.Entry.{Entry}
use Rattle.store_laws.specs.Prefix.{IsPrefix}
use Rattle.store_laws.proofs.Facts.{prefix-split, prefix_length, whole_items}
use Rattle.mount_sound.specs.Entries.{AreEntriesOf, logged, last_stamp}
use Rattle.mount_sound.specs.Dropping.{EndPast}
use Rattle.mount_sound.specs.Fitting.{fitting}

yes : (a b : ℕ) → nat_le a b ≡ true → a ≤ b
yes a b e = grind (arith, nat_tests)

no : (a b : ℕ) → nat_le a b ≡ false → b < a
no a b e = grind (arith, nat_tests)

so : (a b : ℕ) → a ≤ b → nat_le a b ≡ true
so a b l = grind (arith, nat_tests)

-- ---- how many fit

pub fit_length : (log before : ℕ) (es : List Entry) → fitting log before es ≤ length es
fit_length log before [] = omega arith
fit_length log before (e ∷ es) = elim (nat_le (before + e.len) log) as (λ b. (if b then fitting log (before + e.len) es + 1 else 0) ≤ length (e ∷ es)) [
  | true ↦ omega (arith, fit_length log (before + e.len) es)
  | false ↦ omega arith
]

take_one_more : {A : Type 0} (n : ℕ) (x : A) (xs : List A) → take (n + 1) (x ∷ xs) ≡ x ∷ take n xs
take_one_more n x xs = let e : n + 1 ≡ suc n = omega arith in rw e refl

drop_one_more : {A : Type 0} (n : ℕ) (x : A) (xs : List A) → drop (n + 1) (x ∷ xs) ≡ drop n xs
drop_one_more n x xs = let e : n + 1 ≡ suc n = omega arith in rw e refl

-- they end within the log
pub fit_within : (log before : ℕ) (es : List Entry) → before ≤ log → before + logged (take (fitting log before es) es) ≤ log
fit_within log before [] l = omega (arith, l)
fit_within log before (e ∷ es) l = elim (nat_le (before + e.len) log) as (λ b. nat_le (before + e.len) log ≡ b → before + logged (take (if b then fitting log (before + e.len) es + 1 else 0) (e ∷ es)) ≤ log) [
  | true ↦ λ t. let rest = fit_within log (before + e.len) es (yes (before + e.len) log t) in omega (arith, rest, ap logged (take_one_more (fitting log (before + e.len) es) e es))
  | false ↦ λ t. omega (arith, l)
] refl

-- and the next one doesn't
pub fit_past : (log before : ℕ) (es : List Entry) → EndPast log (before + logged (take (fitting log before es) es)) (drop (fitting log before es) es)
fit_past log before [] = tt
fit_past log before (e ∷ es) = elim (nat_le (before + e.len) log) as (λ b. nat_le (before + e.len) log ≡ b → EndPast log (before + logged (take (if b then fitting log (before + e.len) es + 1 else 0) (e ∷ es))) (drop (if b then fitting log (before + e.len) es + 1 else 0) (e ∷ es))) [
  | true ↦ λ t.
      let n = fitting log (before + e.len) es in
      let place : before + e.len + logged (take n es) ≡ before + logged (take (n + 1) (e ∷ es)) = omega (arith, ap logged (take_one_more n e es)) in
      subst (λ d. EndPast log (before + logged (take (n + 1) (e ∷ es))) d) (sym (drop_one_more n e es)) (subst (λ p. EndPast log p (drop n es)) place (fit_past log (before + e.len) es))
  | false ↦ λ t. omega (arith, no (before + e.len) log t)
] refl

-- as many as end within it are among them
pub fit_least : (log before : ℕ) (es : List Entry) (k : ℕ) → k ≤ length es → before + logged (take k es) ≤ log → k ≤ fitting log before es
fit_least log before es zero l w = omega arith
fit_least log before [] (suc k) l w = absurd (omega arith)
fit_least log before (e ∷ es) (suc k) l w = rw (so (before + e.len) log (omega (arith, w))) (omega (arith, fit_least log (before + e.len) es k (omega arith) (omega (arith, w))))

-- none fits of those that end past a log that was no shorter
pub fit_below : (log log' before : ℕ) (xs more : List Entry) (m : ℕ) → log' ≤ log → EndPast log (before + logged xs) more → fitting log' before (take m (xs ++ more)) ≤ length xs
fit_below log log' before [] [] zero l p = omega arith
fit_below log log' before [] [] (suc m) l p = omega arith
fit_below log log' before [] (e ∷ es) zero l p = omega arith
fit_below log log' before [] (e ∷ es) (suc m) l p = elim (nat_le (before + e.len) log') as (λ b. nat_le (before + e.len) log' ≡ b → (if b then fitting log' (before + e.len) (take m es) + 1 else 0) ≤ 0) [
  | true ↦ λ t. absurd (omega (arith, yes (before + e.len) log' t, l, p))
  | false ↦ λ t. omega arith
] refl
fit_below log log' before (x ∷ xs) more zero l p = omega arith
fit_below log log' before (x ∷ xs) more (suc m) l p =
    let past : EndPast log (before + x.len + logged xs) more = subst (λ n. EndPast log n more) (omega arith) p in
    elim (nat_le (before + x.len) log') as (λ b. (if b then fitting log' (before + x.len) (take m (xs ++ more)) + 1 else 0) ≤ length (x ∷ xs)) [
      | true ↦ omega (arith, fit_below log log' (before + x.len) xs more m l past)
      | false ↦ omega arith
    ]

-- ---- fronts of bytes that spell items

front_first : (a b c : List ℕ) → IsPrefix a (b ++ c) → length a ≤ length b → IsPrefix a b
front_first [] b c p l = tt
front_first (x ∷ a) [] c p l = absurd (omega arith)
front_first (x ∷ a) (y ∷ b) c p l = (p.0, front_first a b c p.1 (omega arith))

-- of two fronts the shorter is one of the longer
pub front_of_front : (a b c : List ℕ) → IsPrefix a c → IsPrefix b c → length a ≤ length b → IsPrefix a b
front_of_front [] b c p q l = tt
front_of_front (x ∷ a) [] c p q l = absurd (omega arith)
front_of_front (x ∷ a) (y ∷ b) [] p q l = absurd p
front_of_front (x ∷ a) (y ∷ b) (z ∷ c) p q l = (p.0 ∙ sym q.0, front_of_front a b c p.1 q.1 (omega arith))

take_whole : {X : Type 0} (xs : List X) → take (length xs) xs ≡ xs
take_whole [] = refl
take_whole (x ∷ xs) = ap (λ l. x ∷ l) (take_whole xs)

-- a front of the bytes of items, with less than one behind them, is that of the first ones, and less than one more
pub front_items : {X : Type 0} (spell : X → List ℕ) (width : ℕ) → ((x : X) → length (spell x) ≡ width) → 0 < width → (front : List ℕ) (xs : List X) (tail : List ℕ) → IsPrefix front (flat_map spell xs ++ tail) → length tail < width
    → (m : ℕ) × (rest : List ℕ) × (front ≡ flat_map spell (take m xs) ++ rest) × (length rest < width) × (m ≤ length xs)
front_items spell width fixed some front xs tail p short = elim (cases_lt (length (flat_map spell xs)) (length front)) as (λ _. (m : ℕ) × (rest : List ℕ) × (front ≡ flat_map spell (take m xs) ++ rest) × (length rest < width) × (m ≤ length xs)) [
  | inl past ↦
      let r = prefix-split front (flat_map spell xs) tail p (omega (arith, past)) in
      (length xs, r.0, r.1 ∙ ap (λ l. flat_map spell l ++ r.0) (sym (take_whole xs)), omega (arith, prefix_length r.0 tail r.2, short), omega arith)
  | inr within ↦ whole_items spell width fixed some front xs (front_first front (flat_map spell xs) tail p (omega (arith, within)))
]

-- ---- entries in order

pub order_append : (writer last offset : ℕ) (front back : List Entry) → AreEntriesOf writer last offset front → AreEntriesOf writer (last_stamp last front) (offset + logged front) back → AreEntriesOf writer last offset (front ++ back)
order_append writer last offset [] back o p = subst (λ n. AreEntriesOf writer last n back) (omega arith) p
order_append writer last offset (e ∷ front) back o p = (o.0, order_append writer e.stamp (offset + e.len) front back o.1 (subst (λ n. AreEntriesOf writer (last_stamp e.stamp front) n back) (omega arith) p))

pub order_drop : (n writer last offset : ℕ) (es : List Entry) → AreEntriesOf writer last offset es → AreEntriesOf writer (last_stamp last (take n es)) (offset + logged (take n es)) (drop n es)
order_drop zero writer last offset [] o = tt
order_drop zero writer last offset (e ∷ es) o = subst (λ n. AreEntriesOf writer last n (e ∷ es)) (omega arith) o
order_drop (suc n) writer last offset [] o = tt
order_drop (suc n) writer last offset (e ∷ es) o = subst (λ n'. AreEntriesOf writer (last_stamp e.stamp (take n es)) n' (drop n es)) (omega arith) (order_drop n writer e.stamp (offset + e.len) es o.1)

pub logged_append : (a b : List Entry) → logged (a ++ b) ≡ logged a + logged b
logged_append [] b = omega arith
logged_append (e ∷ a) b = omega (arith, logged_append a b)

pub logged_parts : (n : ℕ) (es : List Entry) → logged (take n es) + logged (drop n es) ≡ logged es
logged_parts zero [] = omega arith
logged_parts zero (e ∷ es) = omega arith
logged_parts (suc n) [] = omega arith
logged_parts (suc n) (e ∷ es) = omega (arith, logged_parts n es)

pub take_less : {X : Type 0} (n m : ℕ) (xs : List X) → n ≤ m → take n (take m xs) ≡ take n xs
take_less zero zero [] l = refl
take_less zero zero (x ∷ xs) l = refl
take_less zero (suc m) [] l = refl
take_less zero (suc m) (x ∷ xs) l = refl
take_less (suc n) zero xs l = absurd (omega arith)
take_less (suc n) (suc m) [] l = refl
take_less (suc n) (suc m) (x ∷ xs) l = ap (λ ys. x ∷ ys) (take_less n m xs (omega arith))

-- what holds of the first ones holds of fewer
pub all_take : (P : Entry → Type 0) (n : ℕ) (es : List Entry) → AllByRecursion P es → AllByRecursion P (take n es)
all_take P zero [] a = tt
all_take P zero (e ∷ es) a = tt
all_take P (suc n) [] a = tt
all_take P (suc n) (e ∷ es) a = (a.0, all_take P n es a.1)
