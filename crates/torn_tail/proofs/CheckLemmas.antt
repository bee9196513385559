-- Checking entries one after the other.
use Rattle.std.proofs.Common.{◌≡◌, ℕ, zero, suc, ◌+◌, ◌-◌, ◌*◌, ◌≤◌, ◌<◌, true, false, nat_le, List, length, drop, ap, sym, ◌∙◌, arith, length-drop}
use Rattle.std.specs.Prelude.{if◌then◌else◌}
use Rattle.std.proofs.lemmas.Bool.{cond-true, cond-false, lt-leb, le-leb}
use Rattle.plfs_types.specs.declared.entries.Entry.{Entry}
use Rattle.index_entry.specs.Spelling.{entry_in}
use Rattle.mount_model.specs.Entries.{is_next}
use Rattle.torn_tail.specs.declared.runs.Run.{Run}
use Rattle.torn_tail.specs.declared.entries.Went.{Went}
use Rattle.torn_tail.specs.declared.entries.Went.TheVariants.{Ends, Breaks}
use Rattle.torn_tail.specs.Entries.{longer, checked}

-- So many entries are left of those that were to be checked, and checking these comes to the same.
pub record Checking (log count : ℕ) (bytes : List ℕ) (first : Run) (left : ℕ) (rest : List ℕ) (run : Run) : Type 0 where
  pub same : checked log left rest run ≡ checked log count bytes first
  pub enough : 40 * left ≤ length rest

-- how it goes on with an entry
checks : ℕ → ℕ → List ℕ → Run → Entry → Went × Run
checks log n rest run e = if is_next run.cover e then (if nat_le (e.physical + e.len) log then checked log n (drop 40 rest) (longer e run) else (Ends, run)) else (Breaks, run)

breaks_here : (log left : ℕ) (rest : List ℕ) (run : Run) (e : Entry) → 0 < left → e ≡ entry_in rest → is_next run.cover e ≡ false → checked log left rest run ≡ (Breaks, run)
unfolding checks
breaks_here log zero rest run e some is h = absurd (omega (arith, some))
breaks_here log (suc n) rest run e some is h =
    ap (checks log n rest run) (sym is) ∙ cond-false (is_next run.cover e) (if nat_le (e.physical + e.len) log then checked log n (drop 40 rest) (longer e run) else (Ends, run)) (Breaks, run) h

ends_here : (log left : ℕ) (rest : List ℕ) (run : Run) (e : Entry) → 0 < left → e ≡ entry_in rest → is_next run.cover e ≡ true → log < e.physical + e.len → checked log left rest run ≡ (Ends, run)
unfolding checks
ends_here log zero rest run e some is h past = absurd (omega (arith, some))
ends_here log (suc n) rest run e some is h past =
    ap (checks log n rest run) (sym is)
    ∙ cond-true (is_next run.cover e) (if nat_le (e.physical + e.len) log then checked log n (drop 40 rest) (longer e run) else (Ends, run)) (Breaks, run) h
    ∙ cond-false (nat_le (e.physical + e.len) log) (checked log n (drop 40 rest) (longer e run)) (Ends, run) (lt-leb (e.physical + e.len) log past)

goes_here : (log n : ℕ) (rest : List ℕ) (run : Run) (e : Entry) → e ≡ entry_in rest → is_next run.cover e ≡ true → e.physical + e.len ≤ log → checked log (suc n) rest run ≡ checked log n (drop 40 rest) (longer e run)
unfolding checks
goes_here log n rest run e is h within =
    ap (checks log n rest run) (sym is)
    ∙ cond-true (is_next run.cover e) (if nat_le (e.physical + e.len) log then checked log n (drop 40 rest) (longer e run) else (Ends, run)) (Breaks, run) h
    ∙ cond-true (nat_le (e.physical + e.len) log) (checked log n (drop 40 rest) (longer e run)) (Ends, run) (le-leb (e.physical + e.len) log within)

goes_so : (log left : ℕ) (rest : List ℕ) (run : Run) (e : Entry) → 0 < left → e ≡ entry_in rest → is_next run.cover e ≡ true → e.physical + e.len ≤ log → checked log left rest run ≡ checked log (left - 1) (drop 40 rest) (longer e run)
goes_so log left rest run e some is h within =
    let one : left ≡ suc (left - 1) = omega (arith, some) in
    ap (λ n. checked log n rest run) one ∙ goes_here log (left - 1) rest run e is h within

pub checking_breaks : (log count : ℕ) (bytes : List ℕ) (first : Run) (left : ℕ) (rest : List ℕ) (run : Run) (e : Entry) → Checking log count bytes first left rest run → 0 < left → e ≡ entry_in rest → is_next run.cover e ≡ false → (Breaks, run) ≡ checked log count bytes first
checking_breaks log count bytes first left rest run e c some is h = sym (breaks_here log left rest run e some is h) ∙ c.same

pub checking_ends : (log count : ℕ) (bytes : List ℕ) (first : Run) (left : ℕ) (rest : List ℕ) (run : Run) (e : Entry) → Checking log count bytes first left rest run → 0 < left → e ≡ entry_in rest → is_next run.cover e ≡ true → log < e.physical + e.len → (Ends, run) ≡ checked log count bytes first
checking_ends log count bytes first left rest run e c some is h past = sym (ends_here log left rest run e some is h past) ∙ c.same

pub checking_goes : (log count : ℕ) (bytes : List ℕ) (first : Run) (left : ℕ) (rest : List ℕ) (run : Run) (e : Entry) (next : List ℕ) (new : Run) → Checking log count bytes first left rest run → 0 < left → e ≡ entry_in rest → is_next run.cover e ≡ true → e.physical + e.len ≤ log
    → next ≡ drop 40 rest → new ≡ longer e run → Checking log count bytes first (left - 1) next new
checking_goes log count bytes first left rest run e next new c some is h within then_rest then_run = record {
  same = ap (λ bs. checked log (left - 1) bs new) then_rest ∙ ap (checked log (left - 1) (drop 40 rest)) then_run ∙ sym (goes_so log left rest run e some is h within) ∙ c.same;
  enough = (let e : length next ≡ length rest - 40 = ap length then_rest ∙ length-drop 40 rest in omega (arith, c.enough, some));
}
