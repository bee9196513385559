-- Checking entries one after the other.
use Rattle.std.proofs.Common.{◌≡◌, ℕ, zero, suc, ◌+◌, ◌-◌, ◌*◌, ◌≤◌, ◌<◌, true, false, nat_le, List, length, drop, All, ap, sym, ◌∙◌, arith, length-drop}
use Rattle.std.specs.Prelude.{if◌then◌else◌}
use Rattle.std.proofs.lemmas.Bool.{cond-true, cond-false, lt-leb, le-leb}
use Rattle.plfs_types.specs.declared.entries.Entry.{Entry}
use Rattle.interval_merge.specs.Writer.{HasPiece}
use Rattle.mount_model.specs.Entries.{is_next}
use Rattle.index_reader.specs.declared.entries.Tail.{Tail}
use Rattle.index_reader.specs.declared.entries.Went.{Went}
use Rattle.index_reader.specs.declared.entries.Went.TheVariants.{Ends, Breaks}
use Rattle.index_entry.specs.Spelling.{entry_in}
use Rattle.index_reader.specs.Entries.{longer, checked}

-- So many entries are left of those that were to be checked, and checking these comes to the same.
pub record Checking (log count : ℕ) (bytes : List ℕ) (first : Tail) (left : ℕ) (rest : List ℕ) (tail : Tail) : Type 0 where
  pub same : checked log left rest tail ≡ checked log count bytes first
  pub counted : tail.cover.count + left ≡ first.cover.count + count
  pub enough : 40 * left ≤ length rest
  pub pieces : All HasPiece tail.entries

-- how it goes on with an entry
checks : ℕ → ℕ → List ℕ → Tail → Entry → Went × Tail
checks log n rest tail e = if is_next tail.cover e then (if nat_le (e.physical + e.len) log then checked log n (drop 40 rest) (longer e tail) else (Ends, tail)) else (Breaks, tail)

breaks_here : (log left : ℕ) (rest : List ℕ) (tail : Tail) (e : Entry) → 0 < left → e ≡ entry_in rest → is_next tail.cover e ≡ false → checked log left rest tail ≡ (Breaks, tail)
unfolding checks
breaks_here log zero rest tail e some is h = absurd (omega (arith, some))
breaks_here log (suc n) rest tail e some is h =
    ap (checks log n rest tail) (sym is) ∙ cond-false (is_next tail.cover e) (if nat_le (e.physical + e.len) log then checked log n (drop 40 rest) (longer e tail) else (Ends, tail)) (Breaks, tail) h

ends_here : (log left : ℕ) (rest : List ℕ) (tail : Tail) (e : Entry) → 0 < left → e ≡ entry_in rest → is_next tail.cover e ≡ true → log < e.physical + e.len → checked log left rest tail ≡ (Ends, tail)
unfolding checks
ends_here log zero rest tail e some is h past = absurd (omega (arith, some))
ends_here log (suc n) rest tail e some is h past =
    ap (checks log n rest tail) (sym is)
    ∙ cond-true (is_next tail.cover e) (if nat_le (e.physical + e.len) log then checked log n (drop 40 rest) (longer e tail) else (Ends, tail)) (Breaks, tail) h
    ∙ cond-false (nat_le (e.physical + e.len) log) (checked log n (drop 40 rest) (longer e tail)) (Ends, tail) (lt-leb (e.physical + e.len) log past)

goes_here : (log n : ℕ) (rest : List ℕ) (tail : Tail) (e : Entry) → e ≡ entry_in rest → is_next tail.cover e ≡ true → e.physical + e.len ≤ log → checked log (suc n) rest tail ≡ checked log n (drop 40 rest) (longer e tail)
unfolding checks
goes_here log n rest tail e is h within =
    ap (checks log n rest tail) (sym is)
    ∙ cond-true (is_next tail.cover e) (if nat_le (e.physical + e.len) log then checked log n (drop 40 rest) (longer e tail) else (Ends, tail)) (Breaks, tail) h
    ∙ cond-true (nat_le (e.physical + e.len) log) (checked log n (drop 40 rest) (longer e tail)) (Ends, tail) (le-leb (e.physical + e.len) log within)

goes_so : (log left : ℕ) (rest : List ℕ) (tail : Tail) (e : Entry) → 0 < left → e ≡ entry_in rest → is_next tail.cover e ≡ true → e.physical + e.len ≤ log → checked log left rest tail ≡ checked log (left - 1) (drop 40 rest) (longer e tail)
goes_so log left rest tail e some is h within =
    let one : left ≡ suc (left - 1) = omega (arith, some) in
    ap (λ n. checked log n rest tail) one ∙ goes_here log (left - 1) rest tail e is h within

pub checking_breaks : (log count : ℕ) (bytes : List ℕ) (first : Tail) (left : ℕ) (rest : List ℕ) (tail : Tail) (e : Entry) → Checking log count bytes first left rest tail → 0 < left → e ≡ entry_in rest → is_next tail.cover e ≡ false → (Breaks, tail) ≡ checked log count bytes first
checking_breaks log count bytes first left rest tail e c some is h = sym (breaks_here log left rest tail e some is h) ∙ c.same

pub checking_ends : (log count : ℕ) (bytes : List ℕ) (first : Tail) (left : ℕ) (rest : List ℕ) (tail : Tail) (e : Entry) → Checking log count bytes first left rest tail → 0 < left → e ≡ entry_in rest → is_next tail.cover e ≡ true → log < e.physical + e.len → (Ends, tail) ≡ checked log count bytes first
checking_ends log count bytes first left rest tail e c some is h past = sym (ends_here log left rest tail e some is h past) ∙ c.same

pub checking_goes : (log count : ℕ) (bytes : List ℕ) (first : Tail) (left : ℕ) (rest : List ℕ) (tail : Tail) (e : Entry) (next : List ℕ) (new : Tail) → Checking log count bytes first left rest tail → 0 < left → e ≡ entry_in rest → is_next tail.cover e ≡ true → e.physical + e.len ≤ log
    → next ≡ drop 40 rest → new ≡ longer e tail → All HasPiece new.entries → Checking log count bytes first (left - 1) next new
checking_goes log count bytes first left rest tail e next new c some is h within then_rest then_tail pieces = record {
  same = ap (λ bs. checked log (left - 1) bs new) then_rest ∙ ap (checked log (left - 1) (drop 40 rest)) then_tail ∙ sym (goes_so log left rest tail e some is h within) ∙ c.same;
  counted = (let one : new.cover.count ≡ tail.cover.count + 1 = ap (λ (t : Tail). t.cover.count) then_tail in omega (arith, c.counted, some));
  enough = (let e : length next ≡ length rest - 40 = ap length then_rest ∙ length-drop 40 rest in omega (arith, c.enough, some));
  pieces = pieces;
}
