-- Checking entries one after the other.
use Rattle.std.proofs.Common.{◌≡◌, ℕ, suc, ◌+◌, ◌-◌, ◌*◌, ◌≤◌, ◌<◌, ◌==◌, true, false, nat_le, nat_lt, List, [], ◌∷◌, ◌++◌, length, drop, refl, ap, sym, ◌∙◌, subst, arith, length-append}
use Rattle.std.specs.Prelude.{◌&&◌, if◌then◌else◌, Result, Err, Bool}
use Rattle.std.proofs.lemmas.Bool.{and_parts, cond-true, cond-false, lt-leb, le-leb}
use Rattle.std.proofs.lemmas.Bool.Decides.{nat_tests}
use Rattle.plfs_types.specs.declared.entries.Cover.{Cover}
use Rattle.plfs_types.specs.declared.entries.Entry.{Entry}
use Rattle.plfs_types.specs.declared.limits.TheConstants.{MAX_LOG, MAX_SIZE, MAX_STAMP}
use Rattle.index_entry.specs.Entries.{AreEntriesOf, MayFollow, logged, last_stamp}
use Rattle.index_entry.specs.Spelling.{entry_in}
use Rattle.mount_model.specs.Entries.{is_next}
use Rattle.migrate_core.specs.declared.entries.Tail.{Tail}
use Rattle.migrate_core.specs.Entries.{IsTold, checked, longer, no_entries}

-- ---- what holds of an entry that may come next

pub record Follows (cover : Cover) (e : Entry) : Type 0 where
  pub some : 0 < e.len
  pub near : e.at + e.len ≤ MAX_SIZE
  pub rises : cover.stamp < e.stamp
  pub stamped : e.stamp ≤ MAX_STAMP
  pub writer : e.writer ≡ cover.writer
  pub place : e.physical ≡ cover.bytes
  pub logged : cover.bytes + e.len ≤ MAX_LOG

pub next_rules : (cover : Cover) (e : Entry) → is_next cover e ≡ true → Follows cover e
next_rules cover e h =
    let a = and_parts (nat_lt 0 e.len) _ h in
    let b = and_parts (nat_le e.at MAX_SIZE) _ a.1 in
    let c = and_parts (nat_le e.len (MAX_SIZE - e.at)) _ b.1 in
    let d = and_parts (nat_lt cover.stamp e.stamp) _ c.1 in
    let f = and_parts (nat_le e.stamp MAX_STAMP) _ d.1 in
    let g = and_parts (e.writer == cover.writer) _ f.1 in
    let i = and_parts (e.physical == cover.bytes) _ g.1 in
    let j = and_parts (nat_le e.physical MAX_LOG) _ i.1 in
    let at : e.at ≤ MAX_SIZE = grind (arith, nat_tests, b.0) in
    let len : e.len ≤ MAX_SIZE - e.at = grind (arith, nat_tests, c.0) in
    let place : e.physical ≡ cover.bytes = grind (arith, nat_tests, i.0) in
    let physical : e.physical ≤ MAX_LOG = grind (arith, nat_tests, j.0) in
    let behind : e.len ≤ MAX_LOG - e.physical = grind (arith, nat_tests, j.1) in
    record {
      some = grind (arith, nat_tests, a.0);
      near = omega (arith, at, len);
      rises = grind (arith, nat_tests, d.0);
      stamped = grind (arith, nat_tests, f.0);
      writer = grind (arith, nat_tests, g.0);
      place = place;
      logged = omega (arith, place, physical, behind);
    }

-- ---- entries with one more

logged_push : (es : List Entry) (e : Entry) → logged (es ++ e ∷ []) ≡ logged es + e.len
logged_push [] e = omega arith
logged_push (x ∷ es) e = omega (arith, logged_push es e)

last_stamp_push : (last : ℕ) (es : List Entry) (e : Entry) → last_stamp last (es ++ e ∷ []) ≡ e.stamp
last_stamp_push last [] e = refl
last_stamp_push last (x ∷ es) e = last_stamp_push x.stamp es e

in_order_push : (writer last offset : ℕ) (es : List Entry) (e : Entry) → AreEntriesOf writer last offset es → MayFollow writer (last_stamp last es) (offset + logged es) e → AreEntriesOf writer last offset (es ++ e ∷ [])
in_order_push writer last offset [] e are may = (subst (λ n. MayFollow writer last n e) (omega arith) may, tt)
in_order_push writer last offset (x ∷ es) e are may =
    (are.0, in_order_push writer x.stamp (offset + x.len) es e are.1 (subst (λ n. MayFollow writer (last_stamp x.stamp es) n e) (omega arith) may))

pub told_none : (writer : ℕ) → IsTold (no_entries writer)
told_none writer = record { in_order = tt; many = refl; sum = refl; latest = refl; near = omega arith }

pub longer_told : (tail : Tail) (e : Entry) → is_next tail.cover e ≡ true → IsTold tail → IsTold (longer e tail)
longer_told tail e next t =
    let f = next_rules tail.cover e next in
    record {
      in_order = in_order_push tail.cover.writer 0 0 tail.entries e t.in_order (record {
        some = f.some;
        within = f.near;
        owner = f.writer;
        later = omega (arith, f.rises, t.latest);
        in_range = f.stamped;
        place = omega (arith, f.place, t.sum);
      });
      many = omega (arith, t.many, length-append tail.entries (e ∷ []));
      sum = omega (arith, t.sum, logged_push tail.entries e);
      latest = sym (last_stamp_push 0 tail.entries e);
      near = f.logged;
    }

-- ---- one step of checking

-- how it goes on with an entry
checks : ℕ → List ℕ → Tail → Bool → Entry → Result Tail ℕ
checks n rest tail whole e = if whole && is_next tail.cover e then checked n (drop 40 rest) (longer e tail) else Err (40 * tail.cover.count)

goes_here : (n : ℕ) (rest : List ℕ) (tail : Tail) (e : Entry) → e ≡ entry_in rest → is_next tail.cover e ≡ true → 40 ≤ length rest → checked (suc n) rest tail ≡ checked n (drop 40 rest) (longer e tail)
unfolding checks
goes_here n rest tail e is next whole =
    let here : nat_le 40 (length rest) ≡ true = le-leb 40 (length rest) whole in
    ap (checks n rest tail (nat_le 40 (length rest))) (sym is) ∙ ap (λ b. checks n rest tail b e) here
    ∙ cond-true (is_next tail.cover e) (checked n (drop 40 rest) (longer e tail)) (Err (40 * tail.cover.count)) next

breaks_here : (n : ℕ) (rest : List ℕ) (tail : Tail) (e : Entry) → e ≡ entry_in rest → is_next tail.cover e ≡ false → 40 ≤ length rest → checked (suc n) rest tail ≡ Err (40 * tail.cover.count)
unfolding checks
breaks_here n rest tail e is not_next whole =
    let here : nat_le 40 (length rest) ≡ true = le-leb 40 (length rest) whole in
    ap (checks n rest tail (nat_le 40 (length rest))) (sym is) ∙ ap (λ b. checks n rest tail b e) here
    ∙ cond-false (is_next tail.cover e) (checked n (drop 40 rest) (longer e tail)) (Err (40 * tail.cover.count)) not_next

ends_here : (n : ℕ) (rest : List ℕ) (tail : Tail) → length rest < 40 → checked (suc n) rest tail ≡ Err (40 * tail.cover.count)
unfolding checks
ends_here n rest tail short =
    let here : nat_le 40 (length rest) ≡ false = lt-leb 40 (length rest) short in
    ap (λ b. checks n rest tail b (entry_in rest)) here

one_less : (left : ℕ) → 0 < left → left ≡ suc (left - 1)
one_less left some = omega (arith, some)

-- So many entries are left of those that were to be checked, and checking these comes to the same.
pub record Checking (count : ℕ) (bytes : List ℕ) (first : Tail) (left : ℕ) (rest : List ℕ) (tail : Tail) : Type 0 where
  pub same : checked left rest tail ≡ checked count bytes first
  pub counted : tail.cover.count + left ≡ first.cover.count + count
  pub told : IsTold tail

pub checking_breaks : (count : ℕ) (bytes : List ℕ) (first : Tail) (left : ℕ) (rest : List ℕ) (tail : Tail) (e : Entry) → Checking count bytes first left rest tail → 0 < left → e ≡ entry_in rest → is_next tail.cover e ≡ false → 40 ≤ length rest → Err (40 * tail.cover.count) ≡ checked count bytes first
checking_breaks count bytes first left rest tail e c some is not_next whole = sym (ap (λ n. checked n rest tail) (one_less left some) ∙ breaks_here (left - 1) rest tail e is not_next whole) ∙ c.same

pub checking_ends : (count : ℕ) (bytes : List ℕ) (first : Tail) (left : ℕ) (rest : List ℕ) (tail : Tail) → Checking count bytes first left rest tail → 0 < left → length rest < 40 → Err (40 * tail.cover.count) ≡ checked count bytes first
checking_ends count bytes first left rest tail c some short = sym (ap (λ n. checked n rest tail) (one_less left some) ∙ ends_here (left - 1) rest tail short) ∙ c.same

pub checking_goes : (count : ℕ) (bytes : List ℕ) (first : Tail) (left : ℕ) (rest : List ℕ) (tail : Tail) (e : Entry) (next : List ℕ) (new : Tail) → Checking count bytes first left rest tail → 0 < left → e ≡ entry_in rest → is_next tail.cover e ≡ true → 40 ≤ length rest
    → next ≡ drop 40 rest → new ≡ longer e tail → Checking count bytes first (left - 1) next new
checking_goes count bytes first left rest tail e next new c some is follows whole then_rest then_tail = record {
  same = ap (λ bs. checked (left - 1) bs new) then_rest ∙ ap (checked (left - 1) (drop 40 rest)) then_tail
      ∙ sym (ap (λ n. checked n rest tail) (one_less left some) ∙ goes_here (left - 1) rest tail e is follows whole) ∙ c.same;
  counted = (let one : new.cover.count ≡ tail.cover.count + 1 = ap (λ (t : Tail). t.cover.count) then_tail in omega (arith, c.counted, some));
  told = subst IsTold (sym then_tail) (longer_told tail e follows c.told);
}
