-- The longest runs of entries are the runs of their packed index.
use Rattle.std.proofs.Common.{◌≡◌, ℕ, zero, suc, ◌+◌, ◌-◌, ◌*◌, ◌<◌, ◌≤◌, ◌==◌, true, false, nat_le, List, [], ◌∷◌, ◌++◌, length, refl, sym, ap, ◌∙◌, arith, inl, inr}
use Rattle.std.specs.Prelude.{◌&&◌, Bool}
use Rattle.std.proofs.lemmas.Bool.{and_parts, cond-true, cond-false, le-leb}
use Rattle.std.proofs.lemmas.Bool.Decides.{nat_tests}
use Rattle.std.proofs.lemmas.Nat.{from_le_bytes-to_le_bytes_8}
use Rattle.plfs_types.specs.declared.entries.Entry.{Entry}
use Rattle.index_entry.specs.Spelling.{number_in}
use Rattle.index_pack.specs.declared.runs.Run.{Run}
use Rattle.plfs_types.specs.declared.limits.TheConstants.{MAX_PACKED}
use Rattle.index_pack.specs.Runs.{AreMaximal, CouldGoOn, IsRun, entries_from, entries_of, entry_of, run_entries}
use Rattle.index_pack.specs.Spelling.{Packs, pack_spelling}
use Rattle.index_pack.specs.Valid.{CanBePacked}
use Rattle.index_pack.proofs.Facts.{head_spelled}
use Rattle.migrate_core.specs.declared.entries.Tail.{Tail}
use Rattle.migrate_core.specs.Entries.{IsTold}
use Rattle.migrate_core.specs.Longest.{can_go_on, longest_runs, packing, run_count, runs_from, single, with_entry}
use Rattle.index_reader.specs.PackRules.{same_entry}

-- ---- whether a run goes on

same_number : (n : ℕ) → (n == n) ≡ true
same_number n = grind (arith, nat_tests)

same_itself : (e : Entry) → same_entry e e ≡ true
same_itself e = rw (same_number e.at, same_number e.len, same_number e.physical, same_number e.stamp, same_number e.writer) refl

same_is : (e f : Entry) → same_entry e f ≡ true → e ≡ f
same_is e f h =
    let a = and_parts (e.at == f.at) _ h in
    let b = and_parts (e.len == f.len) _ a.1 in
    let c = and_parts (e.physical == f.physical) _ b.1 in
    let d = and_parts (e.stamp == f.stamp) _ c.1 in
    let at_same : e.at ≡ f.at = grind (arith, nat_tests, a.0) in
    let len_same : e.len ≡ f.len = grind (arith, nat_tests, b.0) in
    let physical_same : e.physical ≡ f.physical = grind (arith, nat_tests, c.0) in
    let stamp_same : e.stamp ≡ f.stamp = grind (arith, nat_tests, d.0) in
    let writer_same : e.writer ≡ f.writer = grind (arith, nat_tests, d.1) in
    λ i. record { at = at_same i; len = len_same i; physical = physical_same i; stamp = stamp_same i; writer = writer_same i }

could_go_on : (r : Run) (e : Entry) → IsRun r → can_go_on r e ≡ true → CouldGoOn r e
could_go_on r e is h = by_count (r.count == 1) refl
  where
    by_count : (b : Bool) → (r.count == 1) ≡ b → CouldGoOn r e
    by_count true one =
        let both : (e.len == r.len) && nat_le r.start e.at ≡ true = sym (cond-true (r.count == 1) ((e.len == r.len) && nat_le r.start e.at) (same_entry e (entry_of r r.count)) one) ∙ h in
        let parts = and_parts (e.len == r.len) _ both in
        let alone : r.count ≡ 1 = grind (arith, nat_tests, one) in
        let len : e.len ≡ r.len = grind (arith, nat_tests, parts.0) in
        let from : r.start ≤ e.at = grind (arith, nat_tests, parts.1) in
        inl (alone, len, from)
    by_count false several =
        let same : same_entry e (entry_of r r.count) ≡ true = sym (cond-false (r.count == 1) ((e.len == r.len) && nat_le r.start e.at) (same_entry e (entry_of r r.count)) several) ∙ h in
        let more : 1 < r.count = grind (arith, nat_tests, several, is.counted) in
        inr (more, same_is e (entry_of r r.count) same)

ends_there : (r : Run) (e : Entry) → IsRun r → (CouldGoOn r e → ⊥) → can_go_on r e ≡ false
ends_there r e is ends = by_test (can_go_on r e) refl
  where
    by_test : (b : Bool) → can_go_on r e ≡ b → can_go_on r e ≡ false
    by_test true yes_so = absurd (ends (could_go_on r e is yes_so))
    by_test false no_so = no_so

-- ---- the first entries of a run

-- its first so many entries as a run
begun : Run → ℕ → Run
begun r zero = r
begun r (suc zero) = record { start = r.start; stride = 0; len = r.len; count = 1; physical = r.physical; stamp = r.stamp; step = 0; writer = r.writer }
begun r (suc (suc k)) = record { start = r.start; stride = r.stride; len = r.len; count = suc (suc k); physical = r.physical; stamp = r.stamp; step = r.step; writer = r.writer }

first_alone : (r : Run) → single (entry_of r 0) ≡ begun r 1
unfolding begun
first_alone r =
    let at_same : r.start + 0 * r.stride ≡ r.start = omega arith in
    let physical_same : r.physical + 0 * r.len ≡ r.physical = omega arith in
    let stamp_same : r.stamp + 0 * r.step ≡ r.stamp = omega arith in
    λ i. record { start = at_same i; stride = 0; len = r.len; count = 1; physical = physical_same i; stamp = stamp_same i; step = 0; writer = r.writer }

not_alone : (k : ℕ) → (suc (suc k) == 1) ≡ false
not_alone k = grind (arith, nat_tests)

goes_on : (r : Run) (k : ℕ) → can_go_on (begun r (suc k)) (entry_of r (suc k)) ≡ true
unfolding begun
goes_on r zero =
    let from : nat_le r.start (r.start + 1 * r.stride) ≡ true = le-leb r.start (r.start + 1 * r.stride) (omega arith) in
    rw (same_number r.len, from) refl
goes_on r (suc k) =
    let e : Entry = entry_of r (suc (suc k)) in
    cond-false (suc (suc k) == 1) ((e.len == r.len) && nat_le r.start e.at) (same_entry e e) (not_alone k) ∙ same_itself e

one_more : (r : Run) (k : ℕ) → with_entry (begun r (suc k)) (entry_of r (suc k)) ≡ begun r (suc (suc k))
unfolding begun
one_more r zero =
    let stride_same : (r.start + 1 * r.stride) - r.start ≡ r.stride = omega arith in
    let step_same : (r.stamp + 1 * r.step) - r.stamp ≡ r.step = omega arith in
    λ i. record { start = r.start; stride = stride_same i; len = r.len; count = 2; physical = r.physical; stamp = r.stamp; step = step_same i; writer = r.writer }
one_more r (suc k) =
    let e : Entry = entry_of r (suc (suc k)) in
    let count_same : suc (suc k) + 1 ≡ suc (suc (suc k)) = omega arith in
    let second : Run = record { start = r.start; stride = e.at - r.start; len = r.len; count = 2; physical = r.physical; stamp = r.stamp; step = e.stamp - r.stamp; writer = r.writer } in
    let later : Run = record { start = r.start; stride = r.stride; len = r.len; count = suc (suc k) + 1; physical = r.physical; stamp = r.stamp; step = r.step; writer = r.writer } in
    cond-false (suc (suc k) == 1) second later (not_alone k)
    ∙ (λ i. record { start = r.start; stride = r.stride; len = r.len; count = count_same i; physical = r.physical; stamp = r.stamp; step = r.step; writer = r.writer })

step_on : (r : Run) (e : Entry) (es : List Entry) → can_go_on r e ≡ true → runs_from r (e ∷ es) ≡ runs_from (with_entry r e) es
step_on r e es h = cond-true (can_go_on r e) (runs_from (with_entry r e) es) (r ∷ runs_from (single e) es) h

step_off : (r : Run) (e : Entry) (es : List Entry) → can_go_on r e ≡ false → runs_from r (e ∷ es) ≡ r ∷ runs_from (single e) es
step_off r e es h = cond-false (can_go_on r e) (runs_from (with_entry r e) es) (r ∷ runs_from (single e) es) h

-- it goes on with all of its entries
all_on : (r : Run) (k n : ℕ) (es : List Entry) → runs_from (begun r (suc k)) (entries_from r (suc k) n ++ es) ≡ runs_from (begun r (suc k + n)) es
all_on r k zero es = ap (λ n. runs_from (begun r n) es) (omega arith)
all_on r k (suc n) es =
    step_on (begun r (suc k)) (entry_of r (suc k)) (entries_from r (suc (suc k)) n ++ es) (goes_on r k)
    ∙ ap (λ q. runs_from q (entries_from r (suc (suc k)) n ++ es)) (one_more r k)
    ∙ all_on r (suc k) n es
    ∙ ap (λ n. runs_from (begun r n) es) (omega arith)

-- all of them are the run
begun_all : (r : Run) (n : ℕ) → IsRun r → r.count ≡ suc n → begun r (suc n) ≡ r
unfolding begun
begun_all r zero is one =
    let alone = is.alone one in
    λ i. record { start = r.start; stride = sym alone.0 i; len = r.len; count = sym one i; physical = r.physical; stamp = r.stamp; step = sym alone.1 i; writer = r.writer }
begun_all r (suc n) is many =
    λ i. record { start = r.start; stride = r.stride; len = r.len; count = sym many i; physical = r.physical; stamp = r.stamp; step = r.step; writer = r.writer }

begins : (r : Run) (n : ℕ) (es : List Entry) → IsRun r → r.count ≡ suc n → longest_runs (run_entries r ++ es) ≡ runs_from r es
begins r n es is many =
    ap (λ c. longest_runs (entries_from r 0 c ++ es)) many
    ∙ ap (λ q. runs_from q (entries_from r 1 n ++ es)) (first_alone r)
    ∙ all_on r 0 n es
    ∙ ap (λ m. runs_from (begun r m) es) (omega arith)
    ∙ ap (λ q. runs_from q es) (begun_all r n is many)

counted_from : (r : Run) → IsRun r → r.count ≡ suc (r.count - 1)
counted_from r is = omega (arith, is.counted)

head_is : (q : Run) (es : List Entry) → IsRun q → run_entries q ++ es ≡ entry_of q 0 ∷ (entries_from q 1 (q.count - 1) ++ es)
head_is q es is = ap (λ c. entries_from q 0 c ++ es) (counted_from q is)

-- runs that are as long as they can be are the longest runs of their entries
longest_are : (rs : List Run) → AreMaximal rs → longest_runs (entries_of rs) ≡ rs
longest_are [] a = refl
longest_are (r ∷ []) a = begins r (r.count - 1) [] a.0 (counted_from r a.0)
longest_are (r ∷ q ∷ qs) a =
    begins r (r.count - 1) (entries_of (q ∷ qs)) a.0 (counted_from r a.0)
    ∙ ap (runs_from r) (head_is q (entries_of qs) a.2.0)
    ∙ step_off r (entry_of q 0) (entries_from q 1 (q.count - 1) ++ entries_of qs) (ends_there r (entry_of q 0) a.0 a.1)
    ∙ ap (λ es. r ∷ longest_runs es) (sym (head_is q (entries_of qs) a.2.0))
    ∙ ap (λ rest. r ∷ rest) (longest_are (q ∷ qs) a.2)

-- ---- the packed index

runs_are : (bytes : List ℕ) (entries : List Entry) → (p : Packs bytes entries) → p.runs ≡ longest_runs entries
runs_are bytes entries p = sym (longest_are p.runs p.maximal) ∙ ap longest_runs p.same

pub packing_is : (bytes : List ℕ) (entries : List Entry) → Packs bytes entries → bytes ≡ packing entries
unfolding packing
packing_is bytes entries p = p.spells.spelled ∙ ap (pack_spelling (length entries)) (runs_are bytes entries p)

pub run_count_is : (bytes : List ℕ) (entries : List Entry) → Packs bytes entries → number_in 16 bytes ≡ run_count entries
unfolding run_count
run_count_is bytes entries p =
    ap (number_in 16) p.spells.spelled ∙ from_le_bytes-to_le_bytes_8 (length p.runs) p.spells.runs_counted ∙ ap length (runs_are bytes entries p)

-- what was read can be packed
pub can_pack : (tail : Tail) → IsTold tail → 1 ≤ tail.cover.count → tail.cover.count ≤ MAX_PACKED → CanBePacked tail.entries
can_pack tail t some few = record {
  owner = tail.cover.writer;
  in_order = t.in_order;
  near = omega (arith, t.sum, t.near);
  counted = (omega (arith, some, t.many), omega (arith, few, t.many));
}

-- it has a head
pub long_enough : (bytes : List ℕ) (entries : List Entry) → Packs bytes entries → 24 ≤ length bytes
long_enough bytes entries p = (head_spelled bytes (length entries) p.runs p.spells).long
