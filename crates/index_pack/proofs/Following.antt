-- Entries of one writer: those of two lists, and of runs.
use Rattle.std.proofs.Common.{◌≡◌, ℕ, zero, suc, ◌+◌, ◌-◌, ◌*◌, ◌≤◌, ◌<◌, List, [], ◌∷◌, ◌++◌, length, take, drop, get_or, refl, sym, ap, ◌∙◌, subst, arith}
use Rattle.std.proofs.Math.Nat.{suc-mul}
use Rattle.std.proofs.lemmas.List.{length-append, take-append-drop, take_more, length-take}
use Rattle.plfs_types.specs.declared.entries.Entry.{Entry}
use Rattle.index_entry.specs.Entries.{AreEntriesOf, logged, last_stamp}
use Rattle.index_pack.specs.declared.runs.Run.{Run}
use Rattle.index_pack.specs.RunEnds.{run_stamp}
use Rattle.index_pack.specs.Runs.{entry_of, entries_from, run_entries, IsRun}
use Rattle.index_pack.specs.Valid.{CanBePacked}

-- ---- two lists

pub logged-append : (a b : List Entry) → logged (a ++ b) ≡ logged a + logged b
logged-append [] b = omega arith
logged-append (e ∷ a) b = omega (arith, logged-append a b)

pub last_stamp-append : (last : ℕ) (a b : List Entry) → last_stamp last (a ++ b) ≡ last_stamp (last_stamp last a) b
last_stamp-append last [] b = refl
last_stamp-append last (e ∷ a) b = last_stamp-append e.stamp a b

pub both_of : (writer last offset end : ℕ) (a b : List Entry) → end ≡ offset + logged a → AreEntriesOf writer last offset a → AreEntriesOf writer (last_stamp last a) end b
    → AreEntriesOf writer last offset (a ++ b)
both_of writer last offset end [] b is first rest = let P : ℕ → Type 0 = λ n. AreEntriesOf writer last n b in subst P (omega (arith, is)) rest
both_of writer last offset end (e ∷ a) b is first rest = (first.0, both_of writer e.stamp (offset + e.len) end a b (omega (arith, is)) first.1 rest)

pub first_of : (writer last offset : ℕ) (a b : List Entry) → AreEntriesOf writer last offset (a ++ b) → AreEntriesOf writer last offset a
first_of writer last offset [] b are = tt
first_of writer last offset (e ∷ a) b are = (are.0, first_of writer e.stamp (offset + e.len) a b are.1)

pub rest_of : (writer last offset end : ℕ) (a b : List Entry) → end ≡ offset + logged a → AreEntriesOf writer last offset (a ++ b) → AreEntriesOf writer (last_stamp last a) end b
rest_of writer last offset end [] b is are = let P : ℕ → Type 0 = λ n. AreEntriesOf writer last n b in subst P (omega (arith, is)) are
rest_of writer last offset end (e ∷ a) b is are = rest_of writer e.stamp (offset + e.len) end a b (omega (arith, is)) are.1

-- the first entries of those that can be packed, if there are some
pub first_packed_of : (a b : List Entry) → 1 ≤ length a → CanBePacked (a ++ b) → CanBePacked a
first_packed_of a b some can = record {
  owner = can.owner;
  in_order = first_of can.owner 0 0 a b can.in_order;
  near = omega (arith, can.near, logged-append a b);
  counted = (some, omega (arith, can.counted.1, length-append a b));
}

first_packed : (n : ℕ) (entries : List Entry) → 1 ≤ n → CanBePacked entries → CanBePacked (take n entries)
first_packed n entries some can =
    let whole : take n entries ++ drop n entries ≡ entries = take-append-drop n entries in
    first_packed_of (take n entries) (drop n entries) (omega (arith, length-take n entries, some, can.counted.0)) (subst CanBePacked (sym whole) can)

-- some entries, and the one behind them
pub next_packed : (entries first : List Entry) (i : ℕ) (d : Entry) → i < length entries → first ≡ take i entries → CanBePacked entries → CanBePacked (first ++ get_or entries i d ∷ [])
next_packed entries first i d lt is can =
    subst CanBePacked (take_more entries i d lt ∙ ap (λ (es : List Entry). es ++ get_or entries i d ∷ []) (sym is))
    (first_packed (i + 1) entries (omega arith) can)

-- ---- runs

pub length-entries_from : (r : Run) (k n : ℕ) → length (entries_from r k n) ≡ n
length-entries_from r k zero = refl
length-entries_from r k (suc n) = omega (arith, length-entries_from r (suc k) n)

pub length-run_entries : (r : Run) → length (run_entries r) ≡ r.count
length-run_entries r = length-entries_from r 0 r.count

logged-entries_from : (r : Run) (k n : ℕ) → logged (entries_from r k n) ≡ n * r.len
logged-entries_from r k zero = omega arith
logged-entries_from r k (suc n) = omega (arith, logged-entries_from r (suc k) n, suc-mul n r.len)

pub logged-run_entries : (r : Run) → logged (run_entries r) ≡ r.count * r.len
logged-run_entries r = logged-entries_from r 0 r.count

last_stamp-entries_from : (r : Run) (last k n : ℕ) → last_stamp last (entries_from r k (suc n)) ≡ r.stamp + (k + n) * r.step
last_stamp-entries_from r last k zero = ap (λ (i : ℕ). r.stamp + i * r.step) (omega arith)
last_stamp-entries_from r last k (suc n) =
    last_stamp-entries_from r (r.stamp + k * r.step) (suc k) n ∙ ap (λ (i : ℕ). r.stamp + i * r.step) (omega arith)

pub one_less : (r : Run) → IsRun r → r.count ≡ suc (r.count - 1)
one_less r is = omega (arith, is.counted)

pub last_stamp-run_entries : (r : Run) (last : ℕ) → IsRun r → last_stamp last (run_entries r) ≡ run_stamp r
last_stamp-run_entries r last is =
    ap (λ (n : ℕ). last_stamp last (entries_from r 0 n)) (one_less r is)
    ∙ last_stamp-entries_from r last 0 (r.count - 1)
    ∙ ap (λ (i : ℕ). r.stamp + i * r.step) (omega arith)

-- the first entry, and those behind it
pub head_of : (r : Run) → IsRun r → run_entries r ≡ entry_of r 0 ∷ entries_from r 1 (r.count - 1)
head_of r is = ap (λ (n : ℕ). entries_from r 0 n) (one_less r is)
