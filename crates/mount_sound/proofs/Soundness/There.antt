-- The landed entries of a sound room are those that its bytes tell.
use Rattle.std.proofs.Common.{◌≡◌, ℕ, suc, ◌+◌, ◌*◌, ◌/◌, ◌≤◌, ◌<◌, ◌^◌, true, false, nat_le, List, [], ◌∷◌, ◌++◌, length, min, take, drop, Option, Some, None, refl, ap, sym, ◌∙◌, inl, subst, arith, length-append, append_assoc}
use Rattle.std.specs.Prelude.{MatchOption, slice_get, if◌then◌else◌}
use Rattle.std.proofs.lemmas.List.{length-take-le, length-map, append-nil, take_at, drop_at}
use Rattle.plfs_types.specs.declared.entries.Entry.{Entry}
use Rattle.index_entry.specs.Spelling.{spelling, spelling_all, entry_in, FitsPlaces}
use Rattle.index_entry.specs.Valid.{IsValidEntry}
use Rattle.index_entry.specs.Within.{within_log}
use Rattle.index_entry.proofs.Facts.{entries_format, length-spelling, length-spelling_all, valid_fits_places}
use Rattle.container_layout.specs.declared.items.Item.TheVariants.{Index}
use Rattle.store_api.specs.declared.tree.Room.{Room}
use Rattle.store_laws.specs.Files.{file_at}
use Rattle.store_laws.proofs.Facts.{prefix_length}
use Rattle.mount_model.specs.Paths.{index_path}
use Rattle.mount_model.specs.State.{State}
use Rattle.mount_sound.specs.Entries.{MayFollow, AreEntriesOf, logged, last_stamp}
use Rattle.mount_sound.specs.Ledger.{Written, entries_in, content, AreWritesOf, Ledger}
use Rattle.mount_sound.specs.Dropping.{bytes_of, log_bytes, EndPast, IsDropping, IsWriter}
use Rattle.mount_sound.specs.Items.{HasItem}
use Rattle.mount_sound.specs.Landed.{whole, HasLanded}
use Rattle.mount_sound.specs.Fitting.{fitting}
use Rattle.mount_sound.specs.Sound.{IsSoundFor}
use Rattle.mount_sound.specs.There.{entries_there, landed_entries}
use Rattle.mount_sound.proofs.Soundness.Fitting.{fit_length, fit_least, fit_below, order_append, logged_append}
use Rattle.mount_sound.proofs.Soundness.HasLanded.{landed_is, landed_was_issued}
use Rattle.mount_sound.proofs.Soundness.Landing.{entries_take, in_order_take, logged_take, writes_take}
use Rattle.mount_sound.proofs.Writers.WriteEntries.{length-content}

-- ---- one entry

follows_fits : (writer last offset : ℕ) (e : Entry) → writer < 2 ^ 64 → offset < 2 ^ 64 → MayFollow writer last offset e → FitsPlaces e
follows_fits writer last offset e fits small f =
    let valid : IsValidEntry e = record { not_empty = f.some; near = f.within; stamped = omega (arith, f.later); stamp_fits = omega (arith, f.in_range) } in
    valid_fits_places e valid (omega (arith, f.place, small)) (omega (arith, f.owner, fits))

-- ---- entries in order

take_one_more : (n : ℕ) (x : Entry) (xs : List Entry) → take (n + 1) (x ∷ xs) ≡ x ∷ take n xs
take_one_more n x xs = let e : n + 1 ≡ suc n = omega arith in rw e refl

first_within : ℕ → ℕ → Entry → List ℕ → List Entry
first_within log n x rest = if nat_le (x.physical + x.len) log then x ∷ within_log log n rest else []

by_step : (log n : ℕ) (bytes : List ℕ) (e : Entry) (rest : List ℕ) → entry_in bytes ≡ e → drop 40 bytes ≡ rest → within_log log (suc n) bytes ≡ first_within log n e rest
unfolding first_within
by_step log n bytes e rest one others = ap (λ x. first_within log n x (drop 40 bytes)) one ∙ ap (first_within log n e) others

-- of entries in order, those that their bytes tell are those that end within the log
told_within : (log writer last before : ℕ) (es : List Entry) (tail : List ℕ) → writer < 2 ^ 64 → before + logged es < 2 ^ 64 → AreEntriesOf writer last before es → within_log log (length es) (spelling_all es ++ tail) ≡ take (fitting log before es) es
unfolding first_within
told_within log writer last before [] tail fits small o = refl
told_within log writer last before (e ∷ es) tail fits small o =
    let rest : List ℕ = spelling_all es ++ tail in
    let split : spelling_all (e ∷ es) ++ tail ≡ spelling e ++ rest = append_assoc (spelling e) (spelling_all es) tail in
    let here : FitsPlaces e = follows_fits writer last before e fits (omega (arith, small)) o.0 in
    let step : within_log log (suc (length es)) (spelling e ++ rest) ≡ first_within log (length es) e rest = by_step log (length es) (spelling e ++ rest) e rest (entries_format.again e rest here) (drop_at (spelling e) rest 40 (length-spelling e)) in
    let more : within_log log (length es) rest ≡ take (fitting log (before + e.len) es) es = told_within log writer e.stamp (before + e.len) es tail fits (omega (arith, small)) o.1 in
    let place : first_within log (length es) e rest ≡ (if nat_le (before + e.len) log then e ∷ within_log log (length es) rest else []) = ap (λ p. if nat_le (p + e.len) log then e ∷ within_log log (length es) rest else []) o.0.place in
    ap (within_log log (suc (length es))) split ∙ step ∙ place
    ∙ (elim (nat_le (before + e.len) log) as (λ b. (if b then e ∷ within_log log (length es) rest else []) ≡ take (if b then fitting log (before + e.len) es + 1 else 0) (e ∷ es)) [
      | true ↦ ap (λ l. e ∷ l) more ∙ sym (take_one_more (fitting log (before + e.len) es) e es)
      | false ↦ refl
    ])

-- ---- a dropping

quotient : (n t len : ℕ) → len ≡ 40 * n + t → t < 40 → len / 40 ≡ n
quotient n t len e l = omega arith

take_all_of : (xs : List Entry) → take (length xs) xs ≡ xs
take_all_of [] = refl
take_all_of (x ∷ xs) = ap (λ l. x ∷ l) (take_all_of xs)

take_front : (xs more : List Entry) → take (length xs) (xs ++ more) ≡ xs
take_front [] [] = refl
take_front [] (m ∷ more) = refl
take_front (x ∷ xs) more = ap (λ l. x ∷ l) (take_front xs more)

module _ (writer : ℕ) (issued : List Written) (landed log : ℕ) (bytes : List ℕ) (d : IsDropping writer issued landed log bytes) (fits : writer < 2 ^ 64) (v : AreWritesOf writer issued) (has : logged (take landed (entries_in issued)) ≤ log) where
  first : List Entry
  first = take landed (entries_in issued)

  all : List Entry
  all = first ++ d.more

  counts : whole bytes ≡ length all
  unfolding all first
  counts = quotient (length all) (length d.tail) (length bytes) (omega (arith, ap length d.spelled, length-append (spelling_all all) d.tail, length-spelling_all all)) d.torn

  ordered : AreEntriesOf writer 0 0 all
  unfolding all first
  ordered = order_append writer 0 0 (take landed (entries_in issued)) d.more (in_order_take landed writer 0 0 (entries_in issued) v.in_order) (subst (λ n. AreEntriesOf writer (last_stamp 0 (take landed (entries_in issued))) n d.more) (omega arith) d.in_order)

  small : logged all ≤ 2 ^ 56
  unfolding all first
  small = omega (arith, logged_append (take landed (entries_in issued)) d.more, d.few, v.small, logged_take landed (entries_in issued))

  most : fitting log 0 all ≤ length first
  unfolding all first
  most = omega (arith, ap (fitting log 0) (take_all_of all), fit_below log log 0 (take landed (entries_in issued)) d.more (length all) (omega arith) (subst (λ n. EndPast log n d.more) (omega arith) d.past))

  least : length first ≤ fitting log 0 all
  unfolding all first
  least = fit_least log 0 all (length first) (omega (arith, length-append first d.more)) (omega (arith, ap logged (take_front (take landed (entries_in issued)) d.more), has))

  pub told_landed : within_log log (whole bytes) bytes ≡ take landed (entries_in issued)
  unfolding all first
  told_landed =
      let exact : fitting log 0 all ≡ length first = omega (arith, most, least) in
      ap (λ n. within_log log n bytes) counts ∙ ap (within_log log (length all)) d.spelled
      ∙ told_within log writer 0 0 all d.tail fits (omega (arith, small)) ordered
      ∙ ap (λ n. take n all) exact ∙ take_front first d.more

  -- of the bytes of its whole entries
  pub told_read : within_log log (whole bytes) (take (40 * whole bytes) bytes) ≡ take landed (entries_in issued)
  unfolding all first
  told_read =
      let exact : fitting log 0 all ≡ length first = omega (arith, most, least) in
      let front : take (40 * whole bytes) bytes ≡ spelling_all all ++ [] = ap (λ n. take (40 * n) bytes) counts ∙ ap (take (40 * length all)) d.spelled ∙ take_at (spelling_all all) d.tail (40 * length all) (length-spelling_all all) ∙ sym (append-nil (spelling_all all)) in
      ap (λ n. within_log log n (take (40 * whole bytes) bytes)) counts ∙ ap (within_log log (length all)) front
      ∙ told_within log writer 0 0 all [] fits (omega (arith, small)) ordered
      ∙ ap (λ n. take n all) exact ∙ take_front first d.more

-- of so many entries that were issued, and whose bytes the log has, all are told
pub told_issued : (writer log n : ℕ) (issued : List Written) → writer < 2 ^ 64 → AreWritesOf writer issued → n ≤ length issued → logged (take n (entries_in issued)) ≤ log → within_log log n (spelling_all (take n (entries_in issued))) ≡ take n (entries_in issued)
told_issued writer log n issued fits v within has =
    let es : List Entry = take n (entries_in issued) in
    let long : length es ≡ n = length-take-le n (entries_in issued) (omega (arith, within, length-map issued (λ (w : Written). w.entry))) in
    let exact : fitting log 0 es ≡ length es = omega (arith, fit_length log 0 es, fit_least log 0 es (length es) (omega arith) (omega (arith, has, ap logged (take_all_of es)))) in
    ap (λ k. within_log log k (spelling_all es)) (sym long) ∙ ap (within_log log (length es)) (sym (append-nil (spelling_all es)))
    ∙ told_within log writer 0 0 es [] fits (omega (arith, v.small, logged_take n (entries_in issued))) (in_order_take n writer 0 0 (entries_in issued) v.in_order)
    ∙ ap (λ k. take k es) exact ∙ take_all_of es

-- ---- a writer

by_index : (writer host : ℕ) (issued : List Written) (landed : ℕ) (index : Option (List ℕ)) (log : List ℕ) → MatchOption index (landed ≡ 0) (IsDropping writer issued landed (length log)) → writer < 2 ^ 64 → AreWritesOf writer issued → logged (take landed (entries_in issued)) ≤ length log → entries_there (bytes_of index) log ≡ take landed (entries_in issued)
by_index writer host issued landed None log m fits v has = sym (ap (λ n. take n (entries_in issued)) m ∙ take_none (entries_in issued))
  where
    take_none : (es : List Entry) → take 0 es ≡ []
    take_none [] = refl
    take_none (e ∷ es) = refl
by_index writer host issued landed (Some bytes) log m fits v has = told_landed writer issued landed (length log) bytes m fits v has

-- what has landed of a writer is what its bytes tell
pub writer_told : (room : Room) (writer : ℕ) (issued : List Written) (w : IsWriter room writer issued) → writer < 2 ^ 64 → AreWritesOf writer issued → landed_entries room w.host writer ≡ take w.landed (entries_in issued)
writer_told room writer issued w fits v =
    by_index writer w.host issued w.landed (file_at room (index_path w.host writer)) (log_bytes room w.host writer) w.index fits v
    (omega (arith, logged_take w.landed (entries_in issued), length-content issued v.full, prefix_length (content issued) (log_bytes room w.host writer) w.log))

-- Of an index dropping of a sound mount, the entries that its bytes and its log tell are the landed ones.
pub told_in_sound : (issued : Ledger) (state : State) (s : IsSoundFor issued state) (number : ℕ) (room : Room) → slice_get s.shape.tree.rooms number ≡ Some room → (host writer : ℕ) (bytes : List ℕ) → HasItem room (Index host writer) bytes
    → landed_entries room host writer ≡ take (min (whole bytes) (length (issued number writer))) (entries_in (issued number writer))
told_in_sound issued state s number room there host writer bytes item =
    let w : IsWriter room writer (issued number writer) = (s.sound.rooms number room there).writers writer item.is_item.widths.1 in
    let same : host ≡ w.host = w.one_host host (inl (bytes, item)) in
    ap (λ x. landed_entries room x writer) same ∙ writer_told room writer (issued number writer) w item.is_item.widths.1 (s.sound.writes number writer)
    ∙ ap (λ n. take n (entries_in (issued number writer))) (landed_is room host writer (issued number writer) bytes w item)

-- The bytes of its whole entries tell them too.
pub read_in_sound : (issued : Ledger) (state : State) (s : IsSoundFor issued state) (number : ℕ) (room : Room) → slice_get s.shape.tree.rooms number ≡ Some room → (host writer : ℕ) (bytes : List ℕ) → HasItem room (Index host writer) bytes
    → within_log (length (log_bytes room host writer)) (whole bytes) (take (40 * whole bytes) bytes) ≡ take (min (whole bytes) (length (issued number writer))) (entries_in (issued number writer))
read_in_sound issued state s number room there host writer bytes item =
    let h : HasLanded room host writer (issued number writer) bytes = landed_was_issued issued state s number room there host writer bytes item in
    let v : AreWritesOf writer (issued number writer) = s.sound.writes number writer in
    let long : length (content (take h.landed (issued number writer))) ≡ logged (take h.landed (entries_in (issued number writer))) = length-content (take h.landed (issued number writer)) (writes_take h.landed writer (issued number writer) v).full ∙ ap logged (entries_take h.landed (issued number writer)) in
    told_read writer (issued number writer) h.landed (length (log_bytes room host writer)) bytes h.dropping item.is_item.widths.1 v (omega (arith, long, prefix_length (content (take h.landed (issued number writer))) (log_bytes room host writer) h.logged))
    ∙ ap (λ n. take n (entries_in (issued number writer))) h.is
