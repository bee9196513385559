-- What has landed of a writer, as writes.
use Rattle.std.proofs.Common.{◌≡◌, ℕ, zero, suc, ◌+◌, ◌-◌, ◌*◌, ◌/◌, ◌≤◌, ◌<◌, ◌^◌, true, false, nat_le, List, [], ◌∷◌, ◌++◌, length, take, drop, Option, Some, None, refl, ap, sym, ◌∙◌, inl, inr, subst, arith}
use Rattle.std.specs.Prelude.{MatchOption, if◌then◌else◌}
use Rattle.std.proofs.Math.Seq.{take-add}
use Rattle.std.proofs.lemmas.List.{length-take-le, length-drop, length-map, take_all, take-append-drop}
use Rattle.plfs_types.specs.declared.limits.TheConstants.{MAX_LOG}
use Rattle.plfs_types.specs.declared.entries.Entry.{Entry}
use Rattle.index_entry.specs.Records.{IsBytes, records_in}
use Rattle.index_entry.specs.Spelling.{entry_in, spelling_all}
use Rattle.index_entry.specs.Within.{within_log}
use Rattle.index_entry.proofs.Facts.{entries_format, records_back}
use Rattle.store_api.specs.declared.tree.Room.{Room}
use Rattle.store_laws.specs.Files.{file_at}
use Rattle.store_laws.specs.Prefix.{IsPrefix}
use Rattle.store_laws.proofs.Facts.{prefix_take}
use Rattle.mount_model.specs.Paths.{index_path}
use Rattle.mount_sound.specs.Entries.{AreEntriesOf, logged, last_stamp}
use Rattle.mount_sound.specs.Ledger.{Written, entries_in, content, AreFull, AreWritesOf}
use Rattle.mount_sound.specs.Dropping.{bytes_of, log_bytes, EndPast, IsDropping, IsKeptWhole, IsToldOf, AreBeside, IsWriter}
use Rattle.mount_sound.specs.Fitting.{fitting}
use Rattle.mount_sound.specs.Items.{HasItemOf}
use Rattle.mount_sound.specs.Landed.{whole}
use Rattle.mount_sound.specs.There.{entries_there, landed_entries}
use Rattle.mount_sound.proofs.Facts.{fit_within, fit_past, order_drop, logged_parts, in_order_take, logged_take}
use Rattle.tree_laws.specs.Checked.{whole_entries, IsCheckedDropping, IsCheckedWriter}

-- ---- writes of entries that have landed

-- the entries with their bytes, one behind the other in the log
abbrev pub writes_of : List Entry → List ℕ → List Written
writes_of [] log = []
writes_of (e ∷ es) log = record { entry = e; bytes = take e.len log } ∷ writes_of es (drop e.len log)

entries_are : (es : List Entry) (log : List ℕ) → entries_in (writes_of es log) ≡ es
entries_are [] log = refl
entries_are (e ∷ es) log = ap (λ (l : List Entry). e ∷ l) (entries_are es (drop e.len log))

content_is : (es : List Entry) (log : List ℕ) → content (writes_of es log) ≡ take (logged es) log
content_is [] log = refl
content_is (e ∷ es) log = ap (λ (l : List ℕ). take e.len log ++ l) (content_is es (drop e.len log)) ∙ sym (take-add e.len (logged es) log)

are_full : (es : List Entry) (log : List ℕ) → logged es ≤ length log → AreFull (writes_of es log)
are_full [] log fits = tt
are_full (e ∷ es) log fits =
    let rest : length (drop e.len log) ≡ length log - e.len = length-drop e.len log in
    (length-take-le e.len log (omega arith), are_full es (drop e.len log) (omega (arith, rest)))

-- ---- entries of whole records

take_one_more : (n : ℕ) (x : Entry) (xs : List Entry) → take (n + 1) (x ∷ xs) ≡ x ∷ take n xs
take_one_more n x xs = let e : n + 1 ≡ suc n = omega arith in rw e refl

-- those that the log has are the first ones that fit it
within_is : (log n writer last before : ℕ) (bytes : List ℕ) → AreEntriesOf writer last before (records_in entry_in 40 n bytes)
    → within_log log n bytes ≡ take (fitting log before (records_in entry_in 40 n bytes)) (records_in entry_in 40 n bytes)
within_is log zero writer last before bytes o = refl
within_is log (suc n) writer last before bytes o =
    let e : Entry = entry_in bytes in
    let rest : List ℕ = drop 40 bytes in
    let es : List Entry = records_in entry_in 40 n rest in
    let more : within_log log n rest ≡ take (fitting log (before + e.len) es) es = within_is log n writer e.stamp (before + e.len) rest o.1 in
    ap (λ (p : ℕ). if nat_le (p + e.len) log then e ∷ within_log log n rest else []) o.0.place
    ∙ (elim (nat_le (before + e.len) log) as (λ b. (if b then e ∷ within_log log n rest else []) ≡ take (if b then fitting log (before + e.len) es + 1 else 0) (e ∷ es)) [
      | true ↦ ap (λ (l : List Entry). e ∷ l) more ∙ sym (take_one_more (fitting log (before + e.len) es) e es)
      | false ↦ refl
    ])

none_past : (k n : ℕ) → k ≡ n / 40 → 40 * k ≤ n
none_past k n e = omega arith

few_past : (k n : ℕ) → k ≡ n / 40 → n - 40 * k < 40
few_past k n e = omega arith

-- an index dropping whose entries are in order is what its landed ones and its log make it
pub dropping_of : (writer : ℕ) (index log : List ℕ) (first : List Entry) → IsBytes index → IsCheckedDropping writer index
    → first ≡ take (fitting (length log) 0 (whole_entries index)) (whole_entries index)
    → (issued : List Written) → take (length issued) (entries_in issued) ≡ first → IsDropping writer issued (length issued) (length log) index
dropping_of writer index log first are c is issued same =
    let es : List Entry = whole_entries index in
    let n : ℕ = fitting (length log) 0 es in
    let k : ℕ = whole index in
    let front : take (length issued) (entries_in issued) ≡ take n es = same ∙ is in
    let whole_spelled : spelling_all es ≡ take (40 * k) index = records_back entries_format k index are (none_past k (length index) refl) in
    let all : spelling_all (take n es ++ drop n es) ++ drop (40 * k) index ≡ index =
    ap (λ (l : List Entry). spelling_all l ++ drop (40 * k) index) (take-append-drop n es) ∙ ap (λ (l : List ℕ). l ++ drop (40 * k) index) whole_spelled ∙ take-append-drop (40 * k) index in
    let last_long : length (drop (40 * k) index) ≡ length index - 40 * k = length-drop (40 * k) index in
    record {
      more = drop n es;
      tail = drop (40 * k) index;
      spelled = sym (ap (λ (l : List Entry). spelling_all (l ++ drop n es) ++ drop (40 * k) index) front ∙ all);
      torn = omega (arith, last_long, few_past k (length index) refl);
      in_order = subst (λ (l : List Entry). AreEntriesOf writer (last_stamp 0 l) (logged l) (drop n es)) (sym front)
          (subst (λ (m : ℕ). AreEntriesOf writer (last_stamp 0 (take n es)) m (drop n es)) (omega arith) (order_drop n writer 0 0 es c.in_order));
      few = subst (λ (l : List Entry). logged (drop n es) ≤ MAX_LOG - logged l) (sym front) (omega (arith, logged_parts n es, c.small));
      past = subst (λ (l : List Entry). EndPast (length log) (logged l) (drop n es)) (sym front)
          (subst (λ (m : ℕ). EndPast (length log) m (drop n es)) (omega arith) (fit_past (length log) 0 es));
      behind = inr refl;
    }

-- ---- a writer

all_of : (es : List Entry) (log : List ℕ) → take (length (writes_of es log)) (entries_in (writes_of es log)) ≡ es
all_of es log =
    let long : length (entries_in (writes_of es log)) ≡ length (writes_of es log) = length-map (writes_of es log) (λ (w : Written). w.entry) in
    take_all (length (writes_of es log)) (entries_in (writes_of es log)) (omega (arith, long)) ∙ entries_are es log

same_long : (es : List Entry) (log : List ℕ) → length (writes_of es log) ≡ length es
same_long es log = sym (length-map (writes_of es log) (λ (w : Written). w.entry)) ∙ ap (λ (l : List Entry). length l) (entries_are es log)

-- what is checked of a writer, where all that it issued has landed
pub record IsAllLanded (room : Room) (writer : ℕ) (issued : List Written) : Type 0 where
  pub is : IsWriter room writer issued
  pub all : is.landed ≡ length issued

abbrev pub landed_writes : Room → ℕ → ℕ → List Written
landed_writes room host writer = writes_of (landed_entries room host writer) (log_bytes room host writer)

landed_first : (writer : ℕ) (index log : List ℕ) → IsCheckedDropping writer index → entries_there index log ≡ take (fitting (length log) 0 (whole_entries index)) (whole_entries index)
landed_first writer index log c = within_is (length log) (whole index) writer 0 0 index c.in_order

file_index : (writer : ℕ) (found : Option (List ℕ)) (log : List ℕ) → IsBytes (bytes_of found) → IsCheckedDropping writer (bytes_of found)
    → MatchOption found (length (writes_of (entries_there (bytes_of found) log) log) ≡ 0)
    (IsDropping writer (writes_of (entries_there (bytes_of found) log) log) (length (writes_of (entries_there (bytes_of found) log) log)) (length log))
file_index writer None log are c = refl
file_index writer (Some index) log are c =
    dropping_of writer index log (entries_there index log) are c (landed_first writer index log c) (writes_of (entries_there index log) log) (all_of (entries_there index log) log)

pub writer_of : (room : Room) (host writer : ℕ) → host < 2 ^ 32 → IsBytes (bytes_of (file_at room (index_path host writer))) → IsCheckedWriter room host writer → IsAllLanded room writer (landed_writes room host writer)
writer_of room host writer fits are c =
    let es : List Entry = landed_entries room host writer in
    let log : List ℕ = log_bytes room host writer in
    let issued : List Written = writes_of es log in
    let front : take (length issued) (entries_in issued) ≡ es = all_of es log in
    record {
      is = record {
        host = host;
        host_fits = fits;
        one_host = c.alone;
        landed = length issued;
        within = omega arith;
        index = file_index writer (file_at room (index_path host writer)) log are c.dropping;
        log = subst (λ (l : List ℕ). IsPrefix l log) (sym (content_is es log)) (prefix_take (logged es) log);
        left = λ none some. c.left none (omega (arith, some, same_long es log));
        told = λ last bytes stamp content has. subst (λ (l : List Entry). IsToldOf last bytes stamp l) (sym front) (c.told last bytes stamp content has);
        settled = λ has. subst (λ (l : List Entry). IsKeptWhole room host writer l) (sym front) (c.settled has);
        beside = λ stamp size content has. subst (λ (l : List Entry). AreBeside stamp l) (sym front) (c.beside stamp size content has);
      };
      all = refl;
    }

pub writes_are : (room : Room) (host writer : ℕ) → IsCheckedWriter room host writer → AreWritesOf writer (landed_writes room host writer)
writes_are room host writer c =
    let index : List ℕ = bytes_of (file_at room (index_path host writer)) in
    let log : List ℕ = log_bytes room host writer in
    let es : List Entry = landed_entries room host writer in
    let all : List Entry = whole_entries index in
    let n : ℕ = fitting (length log) 0 all in
    let is : es ≡ take n all = landed_first writer index log c.dropping in
    let ordered : AreEntriesOf writer 0 0 es = subst (λ (l : List Entry). AreEntriesOf writer 0 0 l) (sym is) (in_order_take n writer 0 0 all c.dropping.in_order) in
    let within : logged es ≤ length log = omega (arith, ap logged is, fit_within (length log) 0 all (omega arith)) in
    let small : logged es ≤ MAX_LOG = omega (arith, ap logged is, logged_take n all, c.dropping.small) in
    record {
      in_order = subst (λ (l : List Entry). AreEntriesOf writer 0 0 l) (sym (entries_are es log)) ordered;
      full = are_full es log within;
      small = subst (λ (l : List Entry). logged l ≤ MAX_LOG) (sym (entries_are es log)) small;
    }

-- ---- a writer without items

no_index : (room : Room) (writer : ℕ) → ((host : ℕ) → HasItemOf room host writer → ⊥) → writer < 2 ^ 64 → (found : Option (List ℕ)) → file_at room (index_path 0 writer) ≡ found
    → MatchOption found (◌≡◌ {A = ℕ} 0 0) (IsDropping writer [] 0 (length (log_bytes room 0 writer)))
no_index room writer none fits None e = refl
no_index room writer none fits (Some bytes) e = absurd (none 0 (inl (bytes, record { is_item = record { in_range = tt; widths = (omega arith, fits) }; there = e })))

pub nobody : (room : Room) (writer : ℕ) → ((host : ℕ) → HasItemOf room host writer → ⊥) → writer < 2 ^ 64 → IsAllLanded room writer []
nobody room writer none fits = record {
  is = record {
    host = 0;
    host_fits = omega arith;
    one_host = λ other has. absurd (none other has);
    landed = 0;
    within = omega arith;
    index = no_index room writer none fits (file_at room (index_path 0 writer)) refl;
    log = tt;
    left = λ gone some. absurd (omega (arith, some));
    told = λ last bytes stamp content has. absurd (none 0 (inr (inr (record { last = last; bytes = bytes; stamp = stamp; content = content; has = has }))));
    settled = λ has. absurd (none 0 (inr (inr has)));
    beside = λ stamp size content has. inl tt;
  };
  all = refl;
}
