-- An index that is right for a room, and that covers as much of each writer as has landed, has the pieces of what has landed in the plain machine's room.
use Rattle.std.proofs.Common.{◌≡◌, ◌≤◌, ◌<◌, ◌+◌, ◌^◌, ℕ, true, false, nat_eq, List, [], ◌∷◌, ◌++◌, length, take, Some, refl, sym, ap, ◌∙◌, subst, arith, if◌then◌else◌}
use Rattle.std.specs.Prelude.{◌/◌, slice_get}
use Rattle.std.specs.List.{AllByRecursion}
use Rattle.std.proofs.lemmas.Bool.Decides.{nat_tests}
use Rattle.std.proofs.lemmas.List.{map-append}
use Rattle.plfs_types.specs.declared.entries.Cover.{Cover}
use Rattle.plfs_types.specs.declared.entries.Entry.{Entry}
use Rattle.plfs_types.specs.declared.entries.WriterCount.{WriterCount}
use Rattle.plfs_types.specs.declared.limits.TheConstants.{ENTRY_SIZE}
use Rattle.plain_file.specs.Runs.{ArePieces}
use Rattle.flat_format.specs.declared.flat.Flat.{Flat}
use Rattle.flat_format.specs.Spelling.{SpellsFlat, flat_spelling}
use Rattle.flat_format.specs.Valid.{IsFlat}
use Rattle.flat_format.proofs.Facts.{one_flat, valid_spells}
use Rattle.store_api.specs.declared.tree.Room.{Room}
use Rattle.store_laws.specs.Files.{kept_at}
use Rattle.mount_model.specs.Paths.{index_path, log_path}
use Rattle.mount_sound.specs.Fitting.{fitting}
use Rattle.mount_sound.specs.Flats.{AreCovered, IsCovered, IsRightFlat, covered_entries}
use Rattle.mount_sound.specs.Ledger.{Written, entries_in}
use Rattle.mount_sound.specs.There.{landed_entries}
use Rattle.mount_sound.proofs.Facts.{entries_take, fewer, fit_length, take_less}
use Rattle.reader_laws.specs.Moments.{Dropping, IsNamed, IsSoundAt, Moment, Stood, issued_by, landed, landed_by}
use Rattle.reader_laws.proofs.Gathered.Facts.{few_covers, its_writers, landed_at, landed_is_first, stands}
use Rattle.reader_laws.specs.Covering.{empty_cover}
use Rattle.outcomes.specs.Counts.{counted, counts_of}
use Rattle.plain_machine.specs.Machine.{PlainWriter}
use Rattle.plain_machine.specs.Landed.{counts, landed_of, landed_writes}
use Rattle.plain_plays.specs.Mirrors.{MirrorsWriter}
use Rattle.plain_plays.specs.Plainly.{dropping_of}
use Rattle.plain_plays.proofs.PlainSteps.ByName.Cuts.{stood_some}

-- how much of this writer has landed
abbrev count_of : PlainWriter → WriterCount
count_of w = record { writer = w.id; count = w.landed }

-- a writer of whom something has landed is counted first
counted_first : (P : List WriterCount → Type 0) (w : PlainWriter) (ws : List PlainWriter) → (w.landed ≡ 0 → P (counts ws)) → (1 ≤ w.landed → P (count_of w ∷ counts ws)) → P (counts (w ∷ ws))
counted_first P w ws none some = elim (nat_eq w.landed 0) as (λ b. nat_eq w.landed 0 ≡ b → P (if b then counts ws else count_of w ∷ counts ws)) [
  | true ↦ λ t. none (grind (arith, nat_tests))
  | false ↦ λ t. some (grind (arith, nat_tests))
] refl

first_count : (c : Cover) (covers : List Cover) (x : WriterCount) (xs : List WriterCount) → counts_of (c ∷ covers) ≡ x ∷ xs → (counted c ≡ x) × (counts_of covers ≡ xs)
first_count c covers x xs e = (cc, cc)

no_count : (c : Cover) (covers : List Cover) → counts_of (c ∷ covers) ≡ [] → ⊥
no_count c covers e = cc

no_cover : (x : WriterCount) (xs : List WriterCount) → counts_of [] ≡ x ∷ xs → ⊥
no_cover x xs e = cc

module _ (m : Moment) (s : IsSoundAt m) (n : ℕ) where
  -- ---- ids of those of whom something has landed

  id_fits : (w : PlainWriter) → MirrorsWriter m n w → 1 ≤ w.landed → (1 ≤ w.id) × (w.id < 2 ^ 64)
  id_fits w o some =
      let d : Dropping = dropping_of n w in
      let had : Stood m d = stood_some m d o.named (subst (λ k. 1 ≤ k) (sym o.landed_is) some) in
      let st = stands m s d had.bytes had.is_item had.there in
      let is : IsCovered st.room (empty_cover w.id) = record { host = w.host; content = had.bytes; stands = record { is_item = had.is_item; there = st.at }; kept = omega arith; sum = refl; latest = refl } in
      let both = its_writers m s n st.room st.there (empty_cover w.id ∷ []) [] (is, ([], refl, refl)) in
      (both.0.0, both.1.0)

  ids_fit : (ws : List PlainWriter) (covers : List Cover) → AllByRecursion (MirrorsWriter m n) ws → counts_of covers ≡ counts ws → AllByRecursion (λ (c : Cover). 1 ≤ c.writer) covers × AllByRecursion (λ (c : Cover). c.writer < 2 ^ 64) covers
  ids_fit [] [] o same = (tt, tt)
  ids_fit [] (c ∷ covers) o same = absurd (no_count c covers same)
  ids_fit (w ∷ ws) [] o same = (tt, tt)
  ids_fit (w ∷ ws) (c ∷ covers) o same =
      counted_first (λ l. counts_of (c ∷ covers) ≡ l → AllByRecursion (λ (x : Cover). 1 ≤ x.writer) (c ∷ covers) × AllByRecursion (λ (x : Cover). x.writer < 2 ^ 64) (c ∷ covers)) w ws
      (λ none e. ids_fit ws (c ∷ covers) o.1 e)
      (λ some e.
      let f = first_count c covers (count_of w) (counts ws) e in
      let id : c.writer ≡ w.id = ap (λ (x : WriterCount). x.writer) f.0 in
      let fits = id_fits w o.0 some in
      let rest = ids_fit ws covers o.1 f.1 in
      ((subst (λ k. 1 ≤ k) (sym id) fits.0, rest.0), (subst (λ k. k < 2 ^ 64) (sym id) fits.1, rest.1)))
      same

  -- ---- what is covered

  module _ (r : Room) (there : slice_get s.shape.tree.rooms n ≡ Some r) where
    one_covered : (c : Cover) (w : PlainWriter) (is : IsCovered r c) → MirrorsWriter m n w → counted c ≡ count_of w → covered_entries r is.host c ≡ entries_in (landed_of w)
    one_covered c w is o same =
        let id : c.writer ≡ w.id = ap (λ (x : WriterCount). x.writer) same in
        let count : c.count ≡ w.landed = ap (λ (x : WriterCount). x.count) same in
        let d : Dropping = record { room = n; host = is.host; writer = c.writer } in
        let named : IsNamed d = is.stands.is_item in
        let es : List Entry = landed_entries r is.host c.writer in
        let here : landed_by m d ≡ es = landed_at m s d r there in
        let log_kept : ℕ = kept_at r (log_path is.host c.writer) in
        let index_kept : ℕ = kept_at r (index_path is.host c.writer) / ENTRY_SIZE in
        let a : c.count ≤ fitting log_kept 0 (take index_kept es) = is.kept in
        let b = fit_length log_kept 0 (take index_kept es) in
        let f = fewer index_kept es in
        let long = ap length here in
        let enough : c.count ≤ landed m d = omega (arith, a, b, f, long) in
        ap (take c.count) (sym here ∙ landed_is_first m s d named)
        ∙ take_less c.count (landed m d) (entries_in (issued_by m d)) enough
        ∙ (λ i. take (count i) (entries_in (m.issued n (id i))))
        ∙ ap (λ l. take w.landed (entries_in l)) o.issued
        ∙ sym (entries_take w.landed w.issued)

    -- the entries of all covers are those that have landed
    pub all_covered : (ws : List PlainWriter) (covers : List Cover) (entries : List Entry) → AllByRecursion (MirrorsWriter m n) ws → counts_of covers ≡ counts ws → AreCovered r covers entries → entries ≡ entries_in (landed_writes ws)
    all_covered [] [] entries o same are = are
    all_covered [] (c ∷ covers) entries o same are = absurd (no_count c covers same)
    all_covered (w ∷ ws) [] entries o same are =
        counted_first (λ l. counts_of [] ≡ l → entries ≡ entries_in (landed_of w ++ landed_writes ws)) w ws
        (λ none e. all_covered ws [] entries o.1 e are ∙ sym (ap (λ k. entries_in (take k w.issued ++ landed_writes ws)) none))
        (λ some e. absurd (no_cover (count_of w) (counts ws) e))
        same
    all_covered (w ∷ ws) (c ∷ covers) entries o same are =
        counted_first (λ l. counts_of (c ∷ covers) ≡ l → entries ≡ entries_in (landed_of w ++ landed_writes ws)) w ws
        (λ none e. all_covered ws (c ∷ covers) entries o.1 e are ∙ sym (ap (λ k. entries_in (take k w.issued ++ landed_writes ws)) none))
        (λ some e.
        let f = first_count c covers (count_of w) (counts ws) e in
        are.1.1
        ∙ ap (λ l. l ++ are.1.0) (one_covered c w are.0 o.0 f.0)
        ∙ ap (λ l. entries_in (landed_of w) ++ l) (all_covered ws covers are.1.0 o.1 f.1 are.1.2)
        ∙ sym (map-append (λ (x : Written). x.entry) (landed_of w) (landed_writes ws)))
        same

    -- So the index has their pieces.
    pub right_pieces : (index : Flat) (ws : List PlainWriter) → AllByRecursion (MirrorsWriter m n) ws → counts_of index.covers ≡ counts ws → IsFlat index → IsRightFlat r (flat_spelling index) → ArePieces (entries_in (landed_writes ws)) [] index.pieces
    right_pieces index ws o same valid right =
        let a = its_writers m s n r there right.flat.covers right.entries right.covered in
        let b = ids_fit ws index.covers o same in
        let spells : SpellsFlat (flat_spelling index) right.flat = subst (λ bytes. SpellsFlat bytes right.flat) (sym right.spelled) (valid_spells right.flat right.valid a.1 (below (length right.flat.covers) (few_covers 1 right.flat.covers (omega arith) right.valid.covers a.0 a.1))) in
        let its_own : SpellsFlat (flat_spelling index) index = valid_spells index valid b.1 (below (length index.covers) (few_covers 1 index.covers (omega arith) valid.covers b.0 b.1)) in
        let one : right.flat ≡ index = one_flat (flat_spelling index) right.flat index spells its_own in
        subst (λ es. ArePieces es [] index.pieces) (all_covered ws index.covers right.entries o same (subst (λ (f : Flat). AreCovered r f.covers right.entries) one right.covered))
        (subst (λ (f : Flat). ArePieces right.entries [] f.pieces) one right.pieces)
      where
        below : (k : ℕ) → k + 1 ≤ 2 ^ 64 → k < 2 ^ 64
        below k l = omega (arith, l)
