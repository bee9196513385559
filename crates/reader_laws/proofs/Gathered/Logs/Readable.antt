-- The entries that a reader gathers are valid, and their bytes determine them.
use Rattle.std.proofs.Common.{◌≡◌, ℕ, zero, suc, ◌+◌, ◌≤◌, ◌<◌, ◌^◌, List, [], ◌∷◌, take, drop, inl, inr, arith, subst, sym}
use Rattle.std.specs.List.{All, AllByRecursion}
use Rattle.std.proofs.lemmas.Bool.{cases_lt}
use Rattle.std.proofs.lemmas.List.Elements.{All-from_recursion}
use Rattle.plfs_types.specs.declared.entries.Entry.{Entry}
use Rattle.index_entry.specs.Valid.{IsValidEntry}
use Rattle.index_entry.proofs.Facts.{valid_fits_places}
use Rattle.mount_sound.specs.Entries.{AreEntriesOf, last_stamp, logged}
use Rattle.mount_sound.specs.Ledger.{Written, entries_in}
use Rattle.reader_laws.specs.Moments.{Moment, Dropping, IsSoundAt, issued_by}
use Rattle.reader_laws.specs.Gathering.{Gathered}
use Rattle.reader_laws.specs.View.{IsReadable, own_entries, FollowsCovered, tails_in}
use Rattle.reader_laws.proofs.Gathered.OpenReaders.Viewing.{All-append, All-take, in_order-take}

readable_from : (writer last offset : ℕ) (es : List Entry) → writer < 2 ^ 64 → offset + logged es ≤ 2 ^ 56 → AreEntriesOf writer last offset es → AllByRecursion IsReadable es
readable_from writer last offset [] fits small o = tt
readable_from writer last offset (e ∷ es) fits small o =
    let first = o.0 in
    let valid : IsValidEntry e = record { not_empty = first.some; near = first.within; stamped = omega (arith, first.later); stamp_fits = omega (arith, first.in_range) } in (
      record { valid = valid; fits = valid_fits_places e valid (omega (arith, first.place, small)) (omega (arith, first.owner, fits)) },
      readable_from writer e.stamp (offset + e.len) es fits (omega (arith, small)) o.1,
    )

All-drop : {X : Type 0} (P : X → Type 0) (n : ℕ) (xs : List X) → AllByRecursion P xs → AllByRecursion P (drop n xs)
All-drop P zero [] a = tt
All-drop P zero (x ∷ xs) a = a
All-drop P (suc n) [] a = tt
All-drop P (suc n) (x ∷ xs) a = All-drop P n xs a.1

-- all entries that a writer issued are, since the id of one that issued any has 64 bits
issued_readable : (end : Moment) (d : Dropping) → IsSoundAt end → AllByRecursion IsReadable (entries_in (issued_by end d))
issued_readable end d s =
    let w = s.sound.writes d.room d.writer in
    elim (cases_lt d.writer (2 ^ 64)) as (λ _. AllByRecursion IsReadable (entries_in (issued_by end d))) [
      | inl fits ↦ readable_from d.writer 0 0 (entries_in (issued_by end d)) fits (omega (arith, w.small)) w.in_order
      | inr above ↦ subst (λ (writes : List Written). AllByRecursion IsReadable (entries_in writes))
          (sym (s.sound.fresh d.room d.writer (omega (arith, above, s.regular.mount_fits, s.regular.serial_fits)))) tt
    ]

tails_readable : (end : Moment) (cut : List Gathered) → IsSoundAt end → AllByRecursion IsReadable (tails_in end cut)
tails_readable end [] s = tt
tails_readable end (g ∷ cut) s =
    let es : List Entry = entries_in (issued_by end g.dropping) in
    All-append IsReadable (drop g.covered (take g.count es)) (tails_in end cut)
    (All-drop IsReadable g.covered (take g.count es) (All-take IsReadable g.count es (issued_readable end g.dropping s)))
    (tails_readable end cut s)

-- The entries of a cut can be read from their bytes, and from no other entries.
pub gathered_readable : (end : Moment) (cut : List Gathered) → IsSoundAt end → All IsReadable (tails_in end cut)
gathered_readable end cut s = All-from_recursion IsReadable (tails_in end cut) (tails_readable end cut s)

-- ---------- the rules

none_more : (n : ℕ) → n ≡ n + 0
none_more n = omega arith

from_none : (n : ℕ) → 0 + n ≡ n
from_none n = omega arith

sums : (a b c : ℕ) → (a + b) + c ≡ a + (b + c)
sums a b c = omega arith

in_order-drop : (n writer last offset : ℕ) (es : List Entry) → AreEntriesOf writer last offset es → AreEntriesOf writer (last_stamp last (take n es)) (offset + logged (take n es)) (drop n es)
in_order-drop zero writer last offset [] o = tt
in_order-drop zero writer last offset (e ∷ es) o = subst (λ k. AreEntriesOf writer last k (e ∷ es)) (none_more offset) o
in_order-drop (suc n) writer last offset [] o = tt
in_order-drop (suc n) writer last offset (e ∷ es) o =
    subst (λ k. AreEntriesOf writer (last_stamp e.stamp (take n es)) k (drop n es)) (sums offset e.len (logged (take n es))) (in_order-drop n writer e.stamp (offset + e.len) es o.1)

all_follow : (end : Moment) (cut : List Gathered) → IsSoundAt end → AllByRecursion (FollowsCovered end) cut
all_follow end [] s = tt
all_follow end (g ∷ cut) s =
    let own : List Entry = own_entries end g in
    let w = s.sound.writes g.dropping.room g.dropping.writer in
    let o : AreEntriesOf g.dropping.writer 0 0 own = in_order-take g.count g.dropping.writer 0 0 (entries_in (issued_by end g.dropping)) w.in_order in
    (subst (λ k. AreEntriesOf g.dropping.writer (last_stamp 0 (take g.covered own)) k (drop g.covered own)) (from_none (logged (take g.covered own))) (in_order-drop g.covered g.dropping.writer 0 0 own o), all_follow end cut s)

-- The entries that a reader gathers follow the rules of a writer's entries.
pub gathered_follow : (end : Moment) (cut : List Gathered) → IsSoundAt end → All (FollowsCovered end) cut
gathered_follow end cut s = All-from_recursion (FollowsCovered end) cut (all_follow end cut s)
