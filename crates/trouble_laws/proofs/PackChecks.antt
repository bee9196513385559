-- Entries that follow a writer's rules are never damage to a migration that checks them.
use Rattle.std.proofs.Common.{◌≡◌, ℕ, ◌+◌, ◌-◌, ◌*◌, ◌≤◌, ◌<◌, ◌^◌, nat_le, true, List, [], ◌∷◌, ◌++◌, length, take, drop, refl, ap, sym, ◌∙◌, subst, arith, length-append, length-drop}
use Rattle.std.specs.Prelude.{◌&&◌, Result, Ok, Err}
use Rattle.std.proofs.lemmas.Bool.{and_from, cond-true}
use Rattle.std.proofs.lemmas.Bool.Decides.{nat_tests}
use Rattle.std.proofs.lemmas.List.{drop-drop, drop_at, length-take-le, take-append-drop}
use Rattle.plfs_types.specs.declared.entries.Cover.{Cover}
use Rattle.plfs_types.specs.declared.entries.Entry.{Entry}
use Rattle.index_entry.specs.Entries.{AreEntriesOf, logged}
use Rattle.index_entry.specs.Spelling.{entry_in, spelling, spelling_all}
use Rattle.index_entry.proofs.Facts.{drop-spelling_all, entries_format, length-spelling, take-spelling_all}
use Rattle.mount_model.specs.Entries.{is_next}
use Rattle.migrate_core.specs.Entries.{checked, longer}
use Rattle.migrate_core.specs.Words.{Tail}
use Rattle.mount_model.specs.Entries.{next_read}
use Rattle.reader_laws.proofs.Facts.{follows_fits, next_true}

-- the next entries behind those that the cover tells of are these, by its writer's rules
pub record ComeNext (cover : Cover) (es : List Entry) : Type 0 where
  pub fits : cover.writer < 2 ^ 64
  pub order : AreEntriesOf cover.writer cover.stamp cover.bytes es
  pub small : cover.bytes + logged es ≤ 2 ^ 56

-- all of the first ones are found
pub record Finds (tail : Tail) (xs rest : List Entry) : Type 0 where
  pub more : Tail
  pub is : checked (length xs) (spelling_all xs) tail ≡ Ok more
  pub next : ComeNext more.cover rest
  pub count : more.cover.count ≡ tail.cover.count + length xs

no_further : (n : ℕ) → n ≡ n + 0
no_further n = omega arith

long_enough : (x : Entry) (rest : List ℕ) → nat_le 40 (length (spelling x ++ rest)) ≡ true
long_enough x rest = le_true 40 (length (spelling x ++ rest)) (omega (arith, length-append (spelling x) rest, length-spelling x))
  where
    le_true : (a b : ℕ) → a ≤ b → nat_le a b ≡ true
    le_true a b l = grind (arith, nat_tests)

checked_all : (xs rest : List Entry) (tail : Tail) → ComeNext tail.cover (xs ++ rest) → Finds tail xs rest
checked_all [] rest tail goes = record { more = tail; is = refl; next = goes; count = no_further tail.cover.count }
checked_all (x ∷ xs) rest tail goes =
    let bytes : List ℕ = spelling x ++ spelling_all xs in
    let first : entry_in bytes ≡ x = entries_format.again x (spelling_all xs) (follows_fits tail.cover.writer tail.cover.stamp tail.cover.bytes x goes.fits (omega (arith, goes.small)) goes.order.0) in
    let later : drop 40 bytes ≡ spelling_all xs = drop_at (spelling x) (spelling_all xs) 40 (length-spelling x) in
    let next : is_next tail.cover (entry_in bytes) ≡ true = ap (is_next tail.cover) first ∙ next_true tail.cover x goes.order.0 (omega (arith, goes.small)) in
    let on : Finds (longer x tail) xs rest = checked_all xs rest (longer x tail) (record { fits = goes.fits; order = goes.order.1; small = omega (arith, goes.small) }) in
    let broken : Result Tail ℕ = Err (40 * tail.cover.count) in
    let to : checked (length (x ∷ xs)) bytes tail ≡ checked (length xs) (spelling_all xs) (longer x tail) =
    cond-true (nat_le 40 (length bytes) && is_next tail.cover (entry_in bytes)) (checked (length xs) (drop 40 bytes) (longer (entry_in bytes) tail)) broken (and_from _ _ (long_enough x (spelling_all xs)) next)
    ∙ ap (λ b. checked (length xs) b (longer (entry_in bytes) tail)) later ∙ ap (λ (e : Entry). checked (length xs) (spelling_all xs) (longer e tail)) first in
    record { more = on.more; is = to ∙ on.is; next = on.next; count = omega (arith, on.count) }

-- so many entries are left, and come next
pub record IsOn (es : List Entry) (left : ℕ) (tail : Tail) : Type 0 where
  pub rest : tail.cover.count + left ≡ length es
  pub next : ComeNext tail.cover (drop tail.cover.count es)

-- What a Read of the next ones gives is checked so.
pub read_on : (es : List Entry) (left : ℕ) (tail : Tail) (bytes : List ℕ) → IsOn es left tail → bytes ≡ take (40 * next_read left) (drop (40 * tail.cover.count) (spelling_all es))
    → (more : Tail) × (checked (next_read left) bytes tail ≡ Ok more) × IsOn es (left - next_read left) more
read_on es left tail bytes on are =
    let c : ℕ = tail.cover.count in
    let k : ℕ = next_read left in
    let xs : List Entry = take k (drop c es) in
    let behind : List Entry = drop k (drop c es) in
    let long : length xs ≡ k = length-take-le k (drop c es) (omega (arith, length-drop c es, on.rest)) in
    let spelled : bytes ≡ spelling_all xs = are ∙ ap (take (40 * k)) (drop-spelling_all c es) ∙ take-spelling_all k (drop c es) in
    let found : Finds tail xs behind = checked_all xs behind tail (subst (ComeNext tail.cover) (sym (take-append-drop k (drop c es))) on.next) in
    let is : checked k bytes tail ≡ Ok found.more = ap (λ b. checked k b tail) spelled ∙ ap (λ n. checked n (spelling_all xs) tail) (sym long) ∙ found.is in
    let count : found.more.cover.count ≡ c + k = omega (arith, found.count, long) in
    let further : behind ≡ drop found.more.cover.count es = drop-drop k c es ∙ ap (λ n. drop n es) (sym count) in
    (found.more, is, record { rest = omega (arith, count, on.rest); next = subst (ComeNext found.more.cover) further found.next })
