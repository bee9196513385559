-- Checking entries one after the other takes those that end within the log, up to the first that doesn't.
use Rattle.std.proofs.Common.{◌≡◌, ℕ, zero, suc, ◌+◌, ◌*◌, ◌≤◌, ◌<◌, ◌^◌, true, false, nat_le, nat_lt, List, [], ◌∷◌, ◌++◌, length, drop, refl, ap, sym, ◌∙◌, inl, inr, subst, arith, append_assoc, length-append, length-drop}
use Rattle.std.specs.Prelude.{if◌then◌else◌, ◌==◌, ◌-◌}
use Rattle.std.specs.List.{AllByRecursion}
use Rattle.std.proofs.lemmas.Bool.{and_parts, cases_Bool, cond-true, cond-false}
use Rattle.std.proofs.lemmas.Bool.Decides.{nat_tests}
use Rattle.std.proofs.lemmas.List.{append-nil, drop-append-le}
use Rattle.plfs_types.specs.declared.entries.Cover.{Cover}
use Rattle.plfs_types.specs.declared.entries.Entry.{Entry}
use Rattle.index_entry.specs.Entries.{logged, last_stamp}
use Rattle.index_entry.specs.Spelling.{entry_in, number_in}
use Rattle.std.specs.Int.{w64, from_le_bytes}
use Rattle.index_entry.specs.Within.{within_log}
use Rattle.interval_merge.specs.Writer.{HasPiece}
use Rattle.mount_sound.proofs.Facts.{logged_append}
use Rattle.mount_model.specs.Entries.{is_next}
use Rattle.index_reader.specs.declared.entries.Tail.{Tail}
use Rattle.index_reader.specs.Entries.{longer}
use Rattle.reader_laws.proofs.Gathered.Facts.{All-append, front_slice}
use Rattle.reader_laws.specs.Covering.{cover_with}

-- ---- a tail with more entries

pub record Longer (more : List Entry) (old new : Tail) : Type 0 where
  pub entries : new.entries ≡ old.entries ++ more
  pub cover : new.cover ≡ cover_with old.cover more
  pub pieces : AllByRecursion HasPiece more

none_more : (n : ℕ) → n ≡ n + 0
none_more n = omega arith

pub no_longer : (t : Tail) → Longer [] t t
no_longer t = record {
  entries = sym (append-nil t.entries);
  cover = λ i. record { writer = t.cover.writer; count = none_more t.cover.count i; bytes = none_more t.cover.bytes i; stamp = t.cover.stamp };
  pieces = tt;
}

pub last_stamp-append : (last : ℕ) (a b : List Entry) → last_stamp last (a ++ b) ≡ last_stamp (last_stamp last a) b
last_stamp-append last [] b = refl
last_stamp-append last (e ∷ a) b = last_stamp-append e.stamp a b

three : (a b c : ℕ) → a + b + c ≡ a + (b + c)
three a b c = omega arith

pub cover_with-append : (c : Cover) (a b : List Entry) → cover_with (cover_with c a) b ≡ cover_with c (a ++ b)
cover_with-append c a b =
    let count : c.count + length a + length b ≡ c.count + length (a ++ b) = three c.count (length a) (length b) ∙ ap (λ n. c.count + n) (sym (length-append a b)) in
    let bytes : c.bytes + logged a + logged b ≡ c.bytes + logged (a ++ b) = three c.bytes (logged a) (logged b) ∙ ap (λ n. c.bytes + n) (sym (logged_append a b)) in
    let stamp : last_stamp (last_stamp c.stamp a) b ≡ last_stamp c.stamp (a ++ b) = sym (last_stamp-append c.stamp a b) in
    λ i. record { writer = c.writer; count = count i; bytes = bytes i; stamp = stamp i }

pub longer_on : (a b : List Entry) (s t u : Tail) → Longer a s t → Longer b t u → Longer (a ++ b) s u
longer_on a b s t u f g = record {
  entries = g.entries ∙ ap (λ es. es ++ b) f.entries ∙ append_assoc s.entries a b;
  cover = g.cover ∙ ap (λ c. cover_with c b) f.cover ∙ cover_with-append s.cover a b;
  pieces = All-append HasPiece a b f.pieces g.pieces;
}

-- an entry that follows has a piece
next_has_piece : (c : Cover) (e : Entry) → is_next c e ≡ true → HasPiece e
next_has_piece c e h =
    let a = and_parts (nat_lt 0 e.len) _ h in
    let b = and_parts (nat_le e.at (2 ^ 40)) _ a.1 in
    let d = and_parts (nat_le e.len (2 ^ 40 - e.at)) _ b.1 in
    let f = and_parts (nat_lt c.stamp e.stamp) _ d.1 in
    let g = and_parts (nat_le e.stamp (2 ^ 63 - 1)) _ f.1 in
    let i = and_parts (e.writer == c.writer) _ g.1 in
    let j = and_parts (e.physical == c.bytes) _ i.1 in
    let k = and_parts (nat_le e.physical (2 ^ 56)) _ j.1 in
    let some : 0 < e.len = grind (arith, nat_tests, a.0) in
    let at : e.at ≤ 2 ^ 40 = grind (arith, nat_tests, b.0) in
    let len : e.len ≤ 2 ^ 40 - e.at = grind (arith, nat_tests, d.0) in
    let place : e.physical ≤ 2 ^ 56 = grind (arith, nat_tests, k.0) in
    let end : e.len ≤ 2 ^ 56 - e.physical = grind (arith, nat_tests, k.1) in
    record { not_empty = some; within = omega (arith, at, len); in_log = omega (arith, place, end) }

one_longer : (e : Entry) (t : Tail) → is_next t.cover e ≡ true → Longer (e ∷ []) t (longer e t)
one_longer e t h = record {
  entries = refl;
  cover = λ i. record { writer = t.cover.writer; count = t.cover.count + 1; bytes = t.cover.bytes + none_more e.len i; stamp = e.stamp };
  pieces = (next_has_piece t.cover e h, tt);
}

-- ---- entries of bytes, and of bytes with more behind them

number_again : (bytes rest : List ℕ) (place : ℕ) → place + 8 ≤ length bytes → number_in place (bytes ++ rest) ≡ number_in place bytes
number_again bytes rest place long = ap (from_le_bytes w64) (front_slice bytes rest place 8 long)

entry_again : (bytes rest : List ℕ) → 40 ≤ length bytes → entry_in (bytes ++ rest) ≡ entry_in bytes
unfolding entry_in
entry_again bytes rest long = λ i. record {
  at = number_again bytes rest 0 (omega (arith, long)) i;
  len = number_again bytes rest 8 (omega (arith, long)) i;
  physical = number_again bytes rest 16 (omega (arith, long)) i;
  stamp = number_again bytes rest 24 (omega (arith, long)) i;
  writer = number_again bytes rest 32 (omega (arith, long)) i;
}

-- what the first entry and the rest tell
first_of : ℕ → ℕ → Entry → List ℕ → List Entry
first_of log n e rest = if nat_le (e.physical + e.len) log then e ∷ within_log log n rest else []

by_step : (log n : ℕ) (bytes : List ℕ) (e : Entry) (rest : List ℕ) → entry_in bytes ≡ e → drop 40 bytes ≡ rest → within_log log (suc n) bytes ≡ first_of log n e rest
unfolding first_of
by_step log n bytes e rest one others = ap (λ x. first_of log n x (drop 40 bytes)) one ∙ ap (first_of log n e) others

first_within : (log n : ℕ) (e : Entry) (rest : List ℕ) → nat_le (e.physical + e.len) log ≡ true → first_of log n e rest ≡ e ∷ within_log log n rest
unfolding first_of
first_within log n e rest h = cond-true (nat_le (e.physical + e.len) log) (e ∷ within_log log n rest) [] h

first_past : (log n : ℕ) (e : Entry) (rest : List ℕ) → nat_le (e.physical + e.len) log ≡ false → first_of log n e rest ≡ []
unfolding first_of
first_past log n e rest h = cond-false (nat_le (e.physical + e.len) log) (e ∷ within_log log n rest) [] h

one_further : (n m : ℕ) → suc n + m ≡ suc (n + m)
one_further n m = omega arith

-- the same with more behind them
step_again : (log n m : ℕ) (bytes rest : List ℕ) → 40 * suc n ≤ length bytes → within_log log (suc n + m) (bytes ++ rest) ≡ first_of log (n + m) (entry_in bytes) (drop 40 bytes ++ rest)
step_again log n m bytes rest long =
    ap (λ k. within_log log k (bytes ++ rest)) (one_further n m)
    ∙ by_step log (n + m) (bytes ++ rest) (entry_in bytes) (drop 40 bytes ++ rest) (entry_again bytes rest (omega (arith, long))) (drop-append-le 40 bytes rest (omega (arith, long)))

-- whatever stands behind so many entries, none of it counts
abbrev pub TellsNoMore : ℕ → ℕ → List ℕ → Type 0
TellsNoMore log n bytes = (m : ℕ) (rest : List ℕ) → within_log log (n + m) (bytes ++ rest) ≡ within_log log n bytes

-- where all entries of some bytes count, those behind them follow
pub within_more : (log n m : ℕ) (bytes rest : List ℕ) → length bytes ≡ 40 * n → length (within_log log n bytes) ≡ n → within_log log (n + m) (bytes ++ rest) ≡ within_log log n bytes ++ within_log log m rest
within_more log zero m [] rest long all = ap (λ k. within_log log k rest) (from_none m)
  where
    from_none : (k : ℕ) → 0 + k ≡ k
    from_none k = omega arith
within_more log zero m (b ∷ bytes) rest long all = absurd (omega (arith, long))
within_more log (suc n) m bytes rest long all =
    let e : Entry = entry_in bytes in
    let here : within_log log (suc n) bytes ≡ first_of log n e (drop 40 bytes) = by_step log n bytes e (drop 40 bytes) refl refl in
    let again : within_log log (suc n + m) (bytes ++ rest) ≡ first_of log (n + m) e (drop 40 bytes ++ rest) = step_again log n m bytes rest (omega (arith, long)) in
    let left : length (drop 40 bytes) ≡ 40 * n = omega (arith, length-drop 40 bytes, long) in
    elim (cases_Bool (nat_le (e.physical + e.len) log)) [
      | inl in_log ↦
          let now : within_log log (suc n) bytes ≡ e ∷ within_log log n (drop 40 bytes) = here ∙ first_within log n e (drop 40 bytes) in_log in
          let rest_all : length (within_log log n (drop 40 bytes)) ≡ n = omega (arith, ap length now, all) in
          again ∙ first_within log (n + m) e (drop 40 bytes ++ rest) in_log ∙ ap (λ l. e ∷ l) (within_more log n m (drop 40 bytes) rest left rest_all) ∙ ap (λ l. l ++ within_log log m rest) (sym now)
      | inr past ↦
          let none : length (within_log log (suc n) bytes) ≡ 0 = ap length (here ∙ first_past log n e (drop 40 bytes) past) in
          absurd (omega (arith, none, all))
    ]

-- ---- how checking goes

-- all of so many entries count
pub record AllCount (log n : ℕ) (bytes : List ℕ) (old new : Tail) : Type 0 where
  pub longer : Longer (within_log log n bytes) old new
  pub all : length (within_log log n bytes) ≡ n

-- the first ones count, and none behind them
pub record SomeCount (log n : ℕ) (bytes : List ℕ) (old new : Tail) : Type 0 where
  pub longer : Longer (within_log log n bytes) old new
  pub ends : TellsNoMore log n bytes

pub all_here : (log : ℕ) (bytes : List ℕ) (old : Tail) → AllCount log 0 bytes old old
all_here log bytes old = record { longer = no_longer old; all = refl }

module _ (log n : ℕ) (bytes : List ℕ) (old : Tail) (long : 40 * suc n ≤ length bytes) where
  abbrev its_entry : Entry
  its_entry = entry_in bytes

  now : nat_le (its_entry.physical + its_entry.len) log ≡ true → within_log log (suc n) bytes ≡ its_entry ∷ within_log log n (drop 40 bytes)
  now in_log = by_step log n bytes its_entry (drop 40 bytes) refl refl ∙ first_within log n its_entry (drop 40 bytes) in_log

  one_and_more : (new : Tail) → is_next old.cover its_entry ≡ true → nat_le (its_entry.physical + its_entry.len) log ≡ true → Longer (within_log log n (drop 40 bytes)) (longer its_entry old) new → Longer (within_log log (suc n) bytes) old new
  one_and_more new next in_log more =
      subst (λ es. Longer es old new) (sym (now in_log)) (longer_on (its_entry ∷ []) (within_log log n (drop 40 bytes)) old (longer its_entry old) new (one_longer its_entry old next) more)

  pub all_later : (new : Tail) → is_next old.cover its_entry ≡ true → nat_le (its_entry.physical + its_entry.len) log ≡ true → AllCount log n (drop 40 bytes) (longer its_entry old) new → AllCount log (suc n) bytes old new
  all_later new next in_log a = record { longer = one_and_more new next in_log a.longer; all = ap length (now in_log) ∙ ap (λ k. suc k) a.all }

  pub some_later : (new : Tail) → is_next old.cover its_entry ≡ true → nat_le (its_entry.physical + its_entry.len) log ≡ true → SomeCount log n (drop 40 bytes) (longer its_entry old) new → SomeCount log (suc n) bytes old new
  some_later new next in_log a = record {
    longer = one_and_more new next in_log a.longer;
    ends = λ m rest. step_again log n m bytes rest long ∙ first_within log (n + m) its_entry (drop 40 bytes ++ rest) in_log ∙ ap (λ l. its_entry ∷ l) (a.ends m rest) ∙ sym (now in_log);
  }

  pub ends_here : nat_le (its_entry.physical + its_entry.len) log ≡ false → SomeCount log (suc n) bytes old old
  ends_here past =
      let none : within_log log (suc n) bytes ≡ [] = by_step log n bytes its_entry (drop 40 bytes) refl refl ∙ first_past log n its_entry (drop 40 bytes) past in
      record { longer = subst (λ es. Longer es old old) (sym none) (no_longer old); ends = λ m rest. step_again log n m bytes rest long ∙ first_past log (n + m) its_entry (drop 40 bytes ++ rest) past ∙ sym none }
