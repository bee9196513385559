-- Entries that follow a writer's rules are never damage to who checks them.
use Rattle.std.proofs.Common.{◌≡◌, ℕ, zero, suc, ◌+◌, ◌-◌, ◌*◌, ◌/◌, ◌≤◌, ◌<◌, ◌^◌, min, Bool, true, false, nat_le, nat_lt, List, [], ◌∷◌, ◌++◌, length, take, drop, refl, ap, sym, ◌∙◌, ◌⊎◌, inl, inr, subst, arith, append_assoc, length-append}
use Rattle.std.specs.Prelude.{Result, Ok, Err, if◌then◌else◌, ◌==◌}
use Rattle.std.proofs.lemmas.Bool.{and_from, cases_lt}
use Rattle.std.proofs.lemmas.Bool.Decides.{nat_tests}
use Rattle.std.proofs.lemmas.List.{take-append-le, drop_at, length-take}
use Rattle.std.proofs.Math.Seq.{take-append-add}
use Rattle.plfs_types.specs.declared.entries.Cover.{Cover}
use Rattle.plfs_types.specs.declared.entries.Entry.{Entry}
use Rattle.index_entry.specs.Entries.{MayFollow, AreEntriesOf, logged}
use Rattle.index_entry.specs.Spelling.{spelling, spelling_all, entry_in, FitsPlaces}
use Rattle.index_entry.specs.Valid.{IsValidEntry}
use Rattle.index_entry.proofs.Facts.{entries_format, length-spelling, length-spelling_all, take-spelling_all, valid_fits_places}
use Rattle.mount_model.specs.History.{Event}
use Rattle.mount_model.specs.Calls.{AreCallsOf}
use Rattle.mount_model.specs.declared.stuck.Stuck.{Stuck}
use Rattle.mount_model.specs.Running.{asking}
use Rattle.mount_model.specs.FlowReplies.{Tries}
use Rattle.mount_model.specs.Entries.{is_next}
use Rattle.mount_model.specs.Program.{done}
use Rattle.index_reader.specs.declared.listing.Dropping.{Dropping as Listed}
use Rattle.index_reader.specs.declared.entries.Tail.{Tail}
use Rattle.index_reader.specs.Entries.{longer, checked}
use Rattle.index_reader.specs.Tails.{if_checked}
use Rattle.reader_laws.specs.Covering.{cover_with}
use Rattle.reader_laws.proofs.Droppings.Checking.{cover_with-append}
use Rattle.reader_laws.proofs.Droppings.Tails.{either}

-- ---- one entry

pub next_true : (c : Cover) (e : Entry) → MayFollow c.writer c.stamp c.bytes e → c.bytes + e.len ≤ 2 ^ 56 → is_next c e ≡ true
next_true c e f small =
    let some : nat_lt 0 e.len ≡ true = (let h = f.some in grind (arith, nat_tests)) in
    let at : nat_le e.at (2 ^ 40) ≡ true = le_true e.at (2 ^ 40) (omega (arith, f.within)) in
    let len : nat_le e.len (2 ^ 40 - e.at) ≡ true = le_true e.len (2 ^ 40 - e.at) (omega (arith, f.within)) in
    let stamp : nat_lt c.stamp e.stamp ≡ true = (let h = f.later in grind (arith, nat_tests)) in
    let fits : nat_le e.stamp (2 ^ 63 - 1) ≡ true = le_true e.stamp (2 ^ 63 - 1) f.in_range in
    let writer : (e.writer == c.writer) ≡ true = eq_true e.writer c.writer f.owner in
    let place : (e.physical == c.bytes) ≡ true = eq_true e.physical c.bytes f.place in
    let log : nat_le e.physical (2 ^ 56) ≡ true = le_true e.physical (2 ^ 56) (omega (arith, f.place, small)) in
    let end : nat_le e.len (2 ^ 56 - e.physical) ≡ true = le_true e.len (2 ^ 56 - e.physical) (omega (arith, f.place, small)) in
    and_from _ _ some (and_from _ _ at (and_from _ _ len (and_from _ _ stamp (and_from _ _ fits (and_from _ _ writer (and_from _ _ place (and_from _ _ log end)))))))
  where
    le_true : (a b : ℕ) → a ≤ b → nat_le a b ≡ true
    le_true a b l = grind (arith, nat_tests)

    eq_true : (a b : ℕ) → a ≡ b → (a == b) ≡ true
    eq_true a b l = grind (arith, nat_tests)

pub follows_fits : (writer last before : ℕ) (e : Entry) → writer < 2 ^ 64 → before < 2 ^ 64 → MayFollow writer last before e → FitsPlaces e
follows_fits writer last before e fits small f =
    let valid : IsValidEntry e = record { not_empty = f.some; near = f.within; stamped = omega (arith, f.later); stamp_fits = f.in_range } in
    valid_fits_places e valid (omega (arith, f.place, small)) (omega (arith, f.owner, fits))

-- ---- entries of bytes

no_ok : (mid : Tail) (why : Stuck) → ◌≡◌ {A = Result Tail Stuck} (Ok mid) (Err why) → ⊥
no_ok mid why e = cc

none_more : (n : ℕ) → n ≡ n + 0
none_more n = omega arith

longer_cover : (e : Entry) (es : List Entry) (t : Tail) → cover_with (longer e t).cover es ≡ cover_with t.cover (e ∷ es)
longer_cover e es t =
    ap (λ c. cover_with c es) (λ i. record { writer = t.cover.writer; count = t.cover.count + 1; bytes = t.cover.bytes + none_more e.len i; stamp = e.stamp })
    ∙ cover_with-append t.cover (e ∷ []) es

module _ (d : Listed) (more : Bool → Tail → Tries Tail) (full : Bool) (rest : List Event) (why : Stuck) where
  -- it goes on to the trouble from this tail
  abbrev pub GoesWrong : Bool → Tail → Type 0
  GoesWrong past mid = AreCallsOf (asking (if full then more past mid else done (Ok mid))) rest (Err why)

  -- all entries were taken, and end within the log, or one ended past it
  abbrev pub HasTaken : ℕ → List Entry → Tail → Type 0
  HasTaken log es old = ((mid : Tail) × (mid.cover ≡ cover_with old.cover es) × (old.cover.bytes + logged es ≤ log) × GoesWrong false mid) ⊎ ((mid : Tail) × GoesWrong true mid)

  pub checked_on : (log n : ℕ) (es : List Entry) (bytes junk : List ℕ) (old : Tail) → n ≡ length es → bytes ≡ spelling_all es ++ junk → old.cover.writer < 2 ^ 64 → old.cover.bytes ≤ log → old.cover.bytes + logged es ≤ 2 ^ 56 → AreEntriesOf old.cover.writer old.cover.stamp old.cover.bytes es
      → AreCallsOf (asking (if_checked d more full (checked log n bytes old))) rest (Err why) → HasTaken log es old
  checked_on log zero [] bytes junk old size is fits within small order made =
      inl (old, (λ i. record { writer = old.cover.writer; count = none_more old.cover.count i; bytes = none_more old.cover.bytes i; stamp = old.cover.stamp }), omega (arith, within), made)
  checked_on log zero (e ∷ es) bytes junk old size is fits within small order made = absurd (omega (arith, size))
  checked_on log (suc n) [] bytes junk old size is fits within small order made = absurd (omega (arith, size))
  checked_on log (suc n) (e ∷ es) bytes junk old size is fits within small order made =
      let behind : List ℕ = spelling_all es ++ junk in
      let split : bytes ≡ spelling e ++ behind = is ∙ append_assoc (spelling e) (spelling_all es) junk in
      let first : entry_in bytes ≡ e = ap entry_in split ∙ entries_format.again e behind (follows_fits old.cover.writer old.cover.stamp old.cover.bytes e fits (omega (arith, small)) order.0) in
      let later : drop 40 bytes ≡ behind = ap (drop 40) split ∙ drop_at (spelling e) behind 40 (length-spelling e) in
      let next : is_next old.cover (entry_in bytes) ≡ true = ap (is_next old.cover) first ∙ next_true old.cover e order.0 (omega (arith, small)) in
      elim (either (is_next old.cover (entry_in bytes)) _ _ (λ p. AreCallsOf (asking (if_checked d more full p)) rest (Err why)) made) as (λ _. HasTaken log (e ∷ es) old) [
        | inl (yes_, made') ↦ elim (either (nat_le ((entry_in bytes).physical + (entry_in bytes).len) log) _ _ (λ p. AreCallsOf (asking (if_checked d more full p)) rest (Err why)) made') as (λ _. HasTaken log (e ∷ es) old) [
          | inl (in_log, on) ↦
              let ends : e.physical + e.len ≤ log = le_is (e.physical + e.len) log (ap (λ (x : Entry). nat_le (x.physical + x.len) log) (sym first) ∙ in_log) in
              let place : e.physical ≡ old.cover.bytes = order.0.place in
              elim (checked_on log n es behind junk (longer e old) (omega (arith, size)) refl fits (omega (arith, ends, place)) (omega (arith, small)) order.1 (subst (λ x. AreCallsOf (asking (if_checked d more full (checked log n behind (longer x old)))) rest (Err why)) first (subst (λ b. AreCallsOf (asking (if_checked d more full (checked log n b (longer (entry_in bytes) old)))) rest (Err why)) later on))) as (λ _. HasTaken log (e ∷ es) old) [
                | inl (mid, cover, all, goes) ↦ inl (mid, cover ∙ longer_cover e es old, omega (arith, all), goes)
                | inr ended ↦ inr ended
              ]
          | inr (past, goes) ↦ inr (old, goes)
        ]
        | inr (no_, made') ↦ absurd (let clash : true ≡ false = sym next ∙ no_ in cc)
      ]
    where
      le_is : (a b : ℕ) → nat_le a b ≡ true → a ≤ b
      le_is a b t = grind (arith, nat_tests)

-- ---- what a Read gives

-- so many whole entries, and less than one more
pub record ReadsEntries (es : List Entry) (n : ℕ) (read : List ℕ) : Type 0 where
  pub junk : List ℕ
  pub few : min (length read / 40) n ≤ length es
  pub is : read ≡ spelling_all (take (min (length read / 40) n) es) ++ junk

pub reads_entries : (es : List Entry) (tail : List ℕ) (n : ℕ) → length tail < 40 → ReadsEntries es n (take (40 * n) (spelling_all es ++ tail))
reads_entries es tail n torn =
    let all : List ℕ = spelling_all es ++ tail in
    let read : List ℕ = take (40 * n) all in
    let long : length all ≡ 40 * length es + length tail = length-append (spelling_all es) tail ∙ ap (λ k. k + length tail) (length-spelling_all es) in
    let size : length read ≡ min (40 * n) (length all) = length-take (40 * n) all in
    elim (cases_lt (length es) n) as (λ _. ReadsEntries es n read) [
      | inl more ↦
          let count : min (length read / 40) n ≡ length es = omega (arith, size, long, torn, more) in
          let split : read ≡ spelling_all es ++ take (40 * n - 40 * length es) tail =
          ap (λ k. take k all) (omega (arith, more, length-spelling_all es)) ∙ take-append-add (spelling_all es) tail (40 * n - 40 * length es) in
          record { junk = take (40 * n - 40 * length es) tail; few = omega (arith, count); is = split ∙ ap (λ l. spelling_all l ++ take (40 * n - 40 * length es) tail) (sym (ap (λ k. take k es) count ∙ taken_all es)) }
      | inr few ↦
          let count : min (length read / 40) n ≡ n = omega (arith, size, long, torn, few) in
          record { junk = []; few = omega (arith, count, few); is = take-append-le (40 * n) (spelling_all es) tail (omega (arith, few, length-spelling_all es)) ∙ take-spelling_all n es ∙ ap (λ k. spelling_all (take k es)) (sym count) ∙ nothing (spelling_all (take (min (length read / 40) n) es)) }
    ]
  where
    taken_all : (xs : List Entry) → take (length xs) xs ≡ xs
    taken_all [] = refl
    taken_all (x ∷ xs) = ap (λ l. x ∷ l) (taken_all xs)

    nothing : (xs : List ℕ) → xs ≡ xs ++ []
    nothing [] = refl
    nothing (x ∷ xs) = ap (λ l. x ∷ l) (nothing xs)
