-- Entries that follow a writer's rules are never damage to a recovery that checks them.
use Rattle.std.proofs.Common.{◌≡◌, ℕ, zero, suc, ◌+◌, ◌*◌, ◌/◌, ◌≤◌, ◌<◌, ◌^◌, min, nat_le, true, false, List, [], ◌∷◌, ◌++◌, length, take, drop, refl, ap, sym, ◌∙◌, ◌⊎◌, inl, inr, subst, arith, append_assoc, length-append}
use Rattle.std.specs.Prelude.{if◌then◌else◌}
use Rattle.std.proofs.lemmas.Bool.{cases_Bool, cases_lt, cond-true, cond-false}
use Rattle.std.proofs.lemmas.List.{drop-append-le, drop-drop, drop_at, length-drop, length-take, take-append-drop}
use Rattle.plfs_types.specs.declared.entries.Entry.{Entry}
use Rattle.index_entry.specs.Entries.{AreEntriesOf, logged}
use Rattle.index_entry.specs.Spelling.{entry_in, spelling, spelling_all}
use Rattle.index_entry.proofs.Facts.{drop-spelling_all, entries_format, length-spelling, length-spelling_all}
use Rattle.mount_model.specs.Entries.{is_next}
use Rattle.torn_tail.specs.Entries.{checked, longer, looked}
use Rattle.torn_tail.specs.Words.{Run, Went, all_there, ends, breaks}
use Rattle.reader_laws.proofs.Facts.{follows_fits, next_true, reads_entries}

-- the next entries of the run are these, by its writer's rules
pub record GoesOn (run : Run) (es : List Entry) : Type 0 where
  pub fits : run.cover.writer < 2 ^ 64
  pub order : AreEntriesOf run.cover.writer run.cover.stamp run.cover.bytes es
  pub small : run.cover.bytes + logged es ≤ 2 ^ 56

abbrev pub came : Went → Run → Went × Run
came went run = (went, run)

-- all were there, and these come next; or one ended past the log
abbrev pub Ends : (Run → Type 0) → Went × Run → Type 0
Ends Next p = ((new : Run) × (p ≡ came all_there new) × Next new) ⊎ ((last : Run) × (p ≡ came ends last))

checked_on : (log n : ℕ) (es rest : List Entry) (bytes junk : List ℕ) (run : Run) → n ≡ length es → bytes ≡ spelling_all es ++ junk → GoesOn run (es ++ rest) → Ends (λ new. GoesOn new rest) (checked log n bytes run)
checked_on log zero [] rest bytes junk run size is goes = inl (run, refl, goes)
checked_on log zero (e ∷ es) rest bytes junk run size is goes = absurd (omega (arith, size))
checked_on log (suc n) [] rest bytes junk run size is goes = absurd (omega (arith, size))
checked_on log (suc n) (e ∷ es) rest bytes junk run size is goes =
    let behind : List ℕ = spelling_all es ++ junk in
    let split : bytes ≡ spelling e ++ behind = is ∙ append_assoc (spelling e) (spelling_all es) junk in
    let first : entry_in bytes ≡ e = ap entry_in split ∙ entries_format.again e behind (follows_fits run.cover.writer run.cover.stamp run.cover.bytes e goes.fits (omega (arith, goes.small)) goes.order.0) in
    let later : drop 40 bytes ≡ behind = ap (drop 40) split ∙ drop_at (spelling e) behind 40 (length-spelling e) in
    let next : is_next run.cover (entry_in bytes) ≡ true = ap (is_next run.cover) first ∙ next_true run.cover e goes.order.0 (omega (arith, goes.small)) in
    let on : Went × Run = checked log n (drop 40 bytes) (longer (entry_in bytes) run) in
    elim (cases_Bool (nat_le ((entry_in bytes).physical + (entry_in bytes).len) log)) as (λ _. Ends (λ new. GoesOn new rest) (checked log (suc n) bytes run)) [
      | inl within ↦
          let to : checked log (suc n) bytes run ≡ checked log n behind (longer e run) =
          cond-true (is_next run.cover (entry_in bytes)) (if nat_le ((entry_in bytes).physical + (entry_in bytes).len) log then on else came ends run) (came breaks run) next
          ∙ cond-true (nat_le ((entry_in bytes).physical + (entry_in bytes).len) log) on (came ends run) within
          ∙ ap (λ b. checked log n b (longer (entry_in bytes) run)) later ∙ ap (λ x. checked log n behind (longer x run)) first in
          subst (Ends (λ new. GoesOn new rest)) (sym to)
          (checked_on log n es rest behind junk (longer e run) (omega (arith, size)) refl (record { fits = goes.fits; order = goes.order.1; small = omega (arith, goes.small) }))
      | inr past ↦ inr (
        run,
        cond-true (is_next run.cover (entry_in bytes)) (if nat_le ((entry_in bytes).physical + (entry_in bytes).len) log then on else came ends run) (came breaks run) next
            ∙ cond-false (nat_le ((entry_in bytes).physical + (entry_in bytes).len) log) on (came ends run) past,
      )
    ]

no_more : (n k : ℕ) → n ≡ 0 → k ≡ k + n
no_more n k e = omega (arith, e)

-- What a Read of so many entries behind the first ones gives is checked so, where an index dropping has some of the entries, and less than one more.
pub read_so : (kept left : List Entry) (tail : List ℕ) (k n log : ℕ) (run : Run) (bytes : List ℕ) → bytes ≡ take (40 * n) (drop (40 * k) (spelling_all kept ++ tail)) → length tail < 40 → GoesOn run (drop k (kept ++ left))
    → Ends (λ new. 40 * n ≤ length bytes → GoesOn new (drop (k + n) (kept ++ left))) (looked false log n bytes run)
read_so kept left tail k n log run bytes is torn goes = elim (cases_lt (length kept) k) as (λ _. Ends (λ new. 40 * n ≤ length bytes → GoesOn new (drop (k + n) (kept ++ left))) (looked false log n bytes run)) [
  | inl past ↦
      let none : length bytes ≡ 0 =
      omega (arith, past, torn, ap length is, length-take (40 * n) (drop (40 * k) (spelling_all kept ++ tail)), length-drop (40 * k) (spelling_all kept ++ tail), length-append (spelling_all kept) tail, length-spelling_all kept) in
      let count : min (length bytes / 40) n ≡ 0 = omega (arith, none) in
      inl (run, ap (λ m. checked log m bytes run) count, λ full. subst (λ j. GoesOn run (drop j (kept ++ left))) (no_more n k (omega (arith, full, none))) goes)
  | inr within ↦
      let es : List Entry = drop k kept in
      let there : drop (40 * k) (spelling_all kept ++ tail) ≡ spelling_all es ++ tail = drop-append-le (40 * k) (spelling_all kept) tail (omega (arith, within, length-spelling_all kept)) ∙ ap (λ l. l ++ tail) (drop-spelling_all k kept) in
      let read : bytes ≡ take (40 * n) (spelling_all es ++ tail) = is ∙ ap (take (40 * n)) there in
      let r = reads_entries es tail n torn in
      let m : ℕ = min (length bytes / 40) n in
      let same : min (length (take (40 * n) (spelling_all es ++ tail)) / 40) n ≡ m = ap (λ b. min (length b / 40) n) (sym read) in
      let spells : bytes ≡ spelling_all (take m es) ++ r.junk = read ∙ r.is ∙ ap (λ j. spelling_all (take j es) ++ r.junk) same in
      let few : m ≤ length es = omega (arith, r.few, same) in
      let whole : drop k (kept ++ left) ≡ take m es ++ (drop m es ++ left) =
      drop-append-le k kept left within ∙ ap (λ l. l ++ left) (sym (take-append-drop m es)) ∙ append_assoc (take m es) (drop m es) left in
      elim (checked_on log m (take m es) (drop m es ++ left) bytes r.junk run (omega (arith, few, length-take m es)) spells (subst (GoesOn run) whole goes)) as (λ _. Ends (λ new. 40 * n ≤ length bytes → GoesOn new (drop (k + n) (kept ++ left))) (looked false log n bytes run)) [
        | inl (new, went, on) ↦ inl (
          new,
          went,
          λ full.
              let all : m ≡ n = omega (arith, full) in
              let behind : drop m es ++ left ≡ drop (k + n) (kept ++ left) =
              ap (λ l. l ++ left) (ap (λ j. drop j es) all ∙ drop-drop n k kept) ∙ sym (drop-append-le (k + n) kept left (omega (arith, few, all, within, length-drop k kept))) in
              subst (GoesOn new) behind on,
        )
        | inr (last, went) ↦ inr (last, went)
      ]
]

-- ---- bytes that were cut

-- Bytes of an index dropping that are the first of these entries, and less than one more.
pub record IsFrontOf (entries : List Entry) (bytes : List ℕ) : Type 0 where
  pub kept : List Entry
  pub left : List Entry
  pub tail : List ℕ
  pub all : entries ≡ kept ++ left
  pub spelled : bytes ≡ spelling_all kept ++ tail
  pub torn : length tail < 40

pub front_cut : (entries : List Entry) (bytes : List ℕ) (n : ℕ) → IsFrontOf entries bytes → IsFrontOf entries (take (40 * n) bytes)
front_cut entries bytes n f =
    let r = reads_entries f.kept f.tail n f.torn in
    let read : List ℕ = take (40 * n) (spelling_all f.kept ++ f.tail) in
    let m : ℕ = min (length read / 40) n in
    record {
      kept = take m f.kept;
      left = drop m f.kept ++ f.left;
      tail = r.junk;
      all = f.all ∙ ap (λ l. l ++ f.left) (sym (take-append-drop m f.kept)) ∙ append_assoc (take m f.kept) (drop m f.kept) f.left;
      spelled = ap (take (40 * n)) f.spelled ∙ r.is;
      torn = omega (arith, ap length r.is, length-append (spelling_all (take m f.kept)) r.junk, length-spelling_all (take m f.kept), length-take m f.kept, r.few, length-take (40 * n) (spelling_all f.kept ++ f.tail));
    }
