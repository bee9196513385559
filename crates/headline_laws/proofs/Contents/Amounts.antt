-- How much a list of writes is: its end, its bytes, its last stamp, and how many writes some bytes are.
use Rattle.std.proofs.Common.{◌≡◌, ◌≤◌, ◌+◌, ◌-◌, ℕ, zero, suc, Bool, false, nat_eq, List, [], ◌∷◌, ◌++◌, length, map, take, refl, ap, ◌∙◌, arith, if◌then◌else◌}
use Rattle.std.specs.Prelude.{max}
use Rattle.std.specs.List.{AllByRecursion}
use Rattle.std.proofs.lemmas.Bool.Decides.{nat_tests}
use Rattle.std.proofs.lemmas.List.Sums.{sum_by-append, sum_by-cons}
use Rattle.plfs_types.specs.declared.entries.Entry.{Entry}
use Rattle.plain_file.specs.declared.changes.Change.{Change}
use Rattle.plain_file.specs.File.{stored_by, stored_bytes}
use Rattle.mount_sound.specs.Entries.{AreEntriesOf, greatest_end, last_stamp, logged}
use Rattle.mount_sound.specs.Ledger.{Written, entries_in}
use Rattle.mount_sound.specs.Ledger.{change_of}
use Rattle.headline.specs.Changes.{last_stamp_of}
use Rattle.headline.specs.Left.{end_of}

-- ---- of writes and of their entries

pub ends_same : (ws : List Written) → end_of (map change_of ws) ≡ greatest_end (entries_in ws)
ends_same [] = refl
ends_same (w ∷ ws) = ap (λ k. max (w.entry.at + w.entry.len) k) (ends_same ws)

pub sums_same : (ws : List Written) → stored_bytes (map change_of ws) ≡ logged (entries_in ws)
sums_same [] = refl
sums_same (w ∷ ws) = sum_by-cons stored_by (change_of w) (map change_of ws) ∙ ap (λ k. w.entry.len + k) (sums_same ws)

stamps_from : (last : ℕ) (w : Written) (ws : List Written) → last_stamp_of (map change_of (w ∷ ws)) ≡ last_stamp last (entries_in (w ∷ ws))
stamps_from last w [] = refl
stamps_from last w (v ∷ ws) = stamps_from w.entry.stamp v ws

pub stamps_same : (ws : List Written) → last_stamp_of (map change_of ws) ≡ last_stamp 0 (entries_in ws)
stamps_same [] = refl
stamps_same (w ∷ ws) = stamps_from 0 w ws

pub stored_both : (xs ys : List Change) → stored_bytes (xs ++ ys) ≡ stored_bytes xs + stored_bytes ys
stored_both xs ys = sum_by-append stored_by xs ys

-- ---- how many writes some bytes are

-- each has some
abbrev pub HaveSome : List Entry → Type 0
HaveSome es = AllByRecursion (λ (e : Entry). 1 ≤ e.len) es

pub have_some : (writer last offset : ℕ) (es : List Entry) → AreEntriesOf writer last offset es → HaveSome es
have_some writer last offset [] are = tt
have_some writer last offset (e ∷ es) are = (are.0.some, have_some writer e.stamp (offset + e.len) es are.1)

abbrev pub count_for : List Entry → ℕ → ℕ
count_for [] bytes = 0
count_for (e ∷ es) bytes = if nat_eq bytes 0 then 0 else 1 + count_for es (bytes - e.len)

pub some_logged : (es : List Entry) (k : ℕ) → HaveSome es → 1 ≤ k → k ≤ length es → 1 ≤ logged (take k es)
some_logged [] k some low high = absurd (omega (arith, low, high))
some_logged (e ∷ es) zero some low high = absurd (omega (arith, low))
some_logged (e ∷ es) (suc k) some low high = let one = some.0 in omega (arith, one)

pub front_counted : (es : List Entry) (k : ℕ) → HaveSome es → k ≤ length es → count_for es (logged (take k es)) ≡ k
front_counted [] zero some le = refl
front_counted [] (suc k) some le = absurd (omega (arith, le))
front_counted (e ∷ es) zero some le = refl
front_counted (e ∷ es) (suc k) some le =
    let one : 1 ≤ e.len = some.0 in
    let rest : ℕ = logged (take k es) in
    let not_zero : nat_eq (e.len + rest) 0 ≡ false = grind (arith, nat_tests) in
    let back : (e.len + rest) - e.len ≡ rest = omega arith in
    ap (λ (b : Bool). if b then 0 else 1 + count_for es ((e.len + rest) - e.len)) not_zero ∙ ap (λ x. 1 + count_for es x) back ∙ next (front_counted es k some.1 (omega (arith, le)))
  where
    next : {n : ℕ} → n ≡ k → 1 + n ≡ suc k
    next same = omega (arith, same)
