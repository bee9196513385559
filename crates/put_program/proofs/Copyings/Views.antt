-- What a reader sees of a container in which the writes of one writer show alone.
use Rattle.std.proofs.Common.{◌≡◌, ◌⊎◌, inl, inr, ℕ, ◌<◌, ◌≤◌, List, [], ◌∷◌, ◌++◌, length, take, map, Some, refl, sym, ap, ◌∙◌, subst, arith, append_assoc, append-nil, length-append}
use Rattle.std.specs.Prelude.{slice_get}
use Rattle.std.specs.List.{AllByRecursion}
use Rattle.std.proofs.lemmas.Bool.{cases_eq, cases_lt}
use Rattle.std.proofs.lemmas.List.{map-append}
use Rattle.plfs_types.specs.declared.entries.Entry.{Entry}
use Rattle.plfs_types.specs.declared.entries.Trunc.{Trunc}
use Rattle.container_layout.specs.declared.items.Item.TheVariants.{Trunc as TruncItem}
use Rattle.plain_file.specs.declared.changes.Change.{Change}
use Rattle.plain_file.specs.declared.changes.Change.TheVariants.{Truncate}
use Rattle.plain_file.specs.File.{file_after, plain}
use Rattle.plain_file.specs.Order.{newest_first}
use Rattle.plain_file.proofs.Facts.{Among}
use Rattle.store_api.specs.declared.tree.Room.{Room}
use Rattle.mount_model.specs.Paths.{trunc_path}
use Rattle.mount_sound.specs.Items.{HasItem}
use Rattle.mount_sound.specs.Ledger.{Written, entries_in}
use Rattle.mount_sound.proofs.Facts.{take_less}
use Rattle.reader_laws.specs.Gathering.{Gathered, IsPrefixOf}
use Rattle.reader_laws.specs.GatheringListing.{AreTruncsAt}
use Rattle.reader_laws.specs.Moments.{Dropping, HadTrunc, IsSoundAt, Moment, issued_by, landed, landed_by}
use Rattle.reader_laws.specs.GatheringOpening.{HasView}
use Rattle.reader_laws.specs.View.{WritersRise, cut_off, own_entries, view, writes_in}
use Rattle.mount_sound.specs.Ledger.{change_of}
use Rattle.reader_laws.proofs.Gathered.Facts.{All-append, all_at, among, among_right, any_found, in_a_room, in_tree, landed_is_first, prefix_of}
use Rattle.reader_laws.proofs.Gathered.Logs.Fronts.{landed_whole}
use Rattle.reader_laws.proofs.Gathered.OpenReaders.Viewing.{All-take, entries_in-take}
use Rattle.packing_laws.specs.Lasting.{HoldsWrites}
use Rattle.put_program.specs.Shown.{HasNothingElse, IsAllHidden, IsStill, ShowsOnly}
use Rattle.put_program.proofs.Copyings.Files.{file_over, over_both, over_none}
use Rattle.put_program.proofs.Copyings.Newest.{AreBefore, IsBefore, IsHiddenBy, all_hidden, olds_last}

-- ---- the writes of a cut

-- the cut's writes are these, with others before and behind them of which each is so
record Splits (P : Written → Type 0) (to : Moment) (cut : List Gathered) (writes : List Written) : Type 0 where
  before : List Written
  behind : List Written
  is : writes_in to cut ≡ before ++ (writes ++ behind)
  all_before : AllByRecursion P before
  all_behind : AllByRecursion P behind

module _ (P : Written → Type 0) (to : Moment) (room : ℕ) where
  -- what was gathered of a writer is so
  abbrev IsGathered : Gathered → Type 0
  IsGathered g = AllByRecursion P (take g.count (issued_by to g.dropping))

  all_others : (cut : List Gathered) → ((g : Gathered) → Among g cut → IsGathered g) → AllByRecursion P (writes_in to cut)
  all_others [] each = tt
  all_others (g ∷ cut) each = All-append P (take g.count (issued_by to g.dropping)) (writes_in to cut) (each g (inl refl)) (all_others cut (λ h a. each h (inr a)))

  no_other : (cut : List Gathered) → ((g : Gathered) → Among g cut → IsGathered g) → Splits P to cut []
  no_other cut each = record { before = writes_in to cut; behind = []; is = sym (append-nil (writes_in to cut)); all_before = all_others cut each; all_behind = tt }

  split_at : (cut : List Gathered) (own : Gathered) (writes : List Written) (writer : ℕ) → WritersRise room cut → Among own cut → own.dropping.writer ≡ writer → take own.count (issued_by to own.dropping) ≡ writes
      → ((g : Gathered) → Among g cut → (g.dropping.writer ≡ writer → ⊥) → IsGathered g) → Splits P to cut writes
  split_at [] own writes writer rise among is its each = absurd among
  split_at (g ∷ cut) own writes writer rise (inl here) is its each = record {
    before = [];
    behind = writes_in to cut;
    is = ap (λ ws. ws ++ writes_in to cut) (ap (λ (x : Gathered). take x.count (issued_by to x.dropping)) (sym here) ∙ its);
    all_before = tt;
    all_behind = all_others cut (λ h a. each h (inr a) (λ same. (let above = above_first h cut rise.1 a in omega (arith, above, same, is, ap (λ (x : Gathered). x.dropping.writer) here))));
  }
    where
      above_first : (h : Gathered) (rest : List Gathered) → AllByRecursion (λ (x : Gathered). g.dropping.writer < x.dropping.writer) rest → Among h rest → g.dropping.writer < h.dropping.writer
      above_first h [] all a = absurd a
      above_first h (x ∷ rest) all (inl same) = (let less = all.0 in omega (arith, less, ap (λ (y : Gathered). y.dropping.writer) same))
      above_first h (x ∷ rest) all (inr a) = above_first h rest all.1 a
  split_at (g ∷ cut) own writes writer rise (inr later) is its each =
      let s = split_at cut own writes writer rise.2 later is its (λ h a other. each h (inr a) other) in
      let above = above_first own cut rise.1 later in
      record {
        before = take g.count (issued_by to g.dropping) ++ s.before;
        behind = s.behind;
        is = ap (λ ws. take g.count (issued_by to g.dropping) ++ ws) s.is ∙ sym (append_assoc (take g.count (issued_by to g.dropping)) s.before (writes ++ s.behind));
        all_before = All-append P (take g.count (issued_by to g.dropping)) s.before (each g (inl refl) (λ same. omega (arith, above, same, is))) s.all_before;
        all_behind = s.all_behind;
      }
    where
      above_first : (h : Gathered) (rest : List Gathered) → AllByRecursion (λ (x : Gathered). g.dropping.writer < x.dropping.writer) rest → Among h rest → g.dropping.writer < h.dropping.writer
      above_first h [] all a = absurd a
      above_first h (x ∷ rest) all (inl same) = (let less = all.0 in omega (arith, less, ap (λ (y : Gathered). y.dropping.writer) same))
      above_first h (x ∷ rest) all (inr a) = above_first h rest all.1 a

-- ---- the file of changes of which the others are hidden

-- a write is older than this stamp
abbrev IsOld : ℕ → Written → Type 0
IsOld stamp w = w.entry.stamp < stamp

old_change : (stamp : ℕ) (w : Written) (writes : List Written) → IsOld stamp w → AllByRecursion (λ (x : Written). stamp < x.entry.stamp) writes → AllByRecursion (IsBefore (change_of w)) (map change_of writes)
old_change stamp w [] old newer = tt
old_change stamp w (x ∷ writes) old newer = (omega (arith, old, newer.0), old_change stamp w writes old newer.1)

olds_before : (stamp : ℕ) (olds writes : List Written) → AllByRecursion (IsOld stamp) olds → AllByRecursion (λ (x : Written). stamp < x.entry.stamp) writes → AreBefore (map change_of olds) (map change_of writes)
olds_before stamp [] writes old newer = tt
olds_before stamp (w ∷ olds) writes old newer = (old_change stamp w writes old.0 newer, olds_before stamp olds writes old.1 newer)

cut_before : (stamp : ℕ) (t : Trunc) (writes : List Written) → t.stamp ≤ stamp → AllByRecursion (λ (x : Written). stamp < x.entry.stamp) writes → AllByRecursion (IsBefore (Truncate t)) (map change_of writes)
cut_before stamp t [] low newer = tt
cut_before stamp t (x ∷ writes) low newer = (omega (arith, low, newer.0), cut_before stamp t writes low newer.1)

cuts_before : (stamp : ℕ) (truncs : List Trunc) (writes : List Written) → AllByRecursion (λ (t : Trunc). t.stamp ≤ stamp) truncs → AllByRecursion (λ (x : Written). stamp < x.entry.stamp) writes → AreBefore (map cut_off truncs) (map change_of writes)
cuts_before stamp [] writes low newer = tt
cuts_before stamp (t ∷ truncs) writes low newer = (cut_before stamp t writes low.0 newer, cuts_before stamp truncs writes low.1 newer)

olds_hidden : (t : Trunc) (olds : List Written) → AllByRecursion (IsOld t.stamp) olds → AllByRecursion (IsHiddenBy t) (map change_of olds)
olds_hidden t [] old = tt
olds_hidden t (w ∷ olds) old = (inl old.0, olds_hidden t olds old.1)

cuts_hidden : (t : Trunc) (truncs : List Trunc) → AllByRecursion (λ (u : Trunc). (u.stamp < t.stamp) ⊎ (u ≡ t)) truncs → AllByRecursion (IsHiddenBy t) (map cut_off truncs)
cuts_hidden t [] all = tt
cuts_hidden t (u ∷ truncs) all = (elim all.0 as (λ _. IsHiddenBy t (Truncate u)) [ inl less ↦ inl less | inr same ↦ inr (ap (λ x. Truncate x) same) ], cuts_hidden t truncs all.1)

among_cuts : (t : Trunc) (truncs : List Trunc) → Among t truncs → Among (Truncate t) (map cut_off truncs)
among_cuts t [] a = a
among_cuts t (u ∷ truncs) (inl same) = inl (ap (λ x. Truncate x) same)
among_cuts t (u ∷ truncs) (inr later) = inr (among_cuts t truncs later)

-- the file is that of these writes alone, where what stands before and behind them makes none
alone : (before writes behind : List Written) (cuts : List Change) → AreBefore (map change_of before) (map change_of writes) → AreBefore (map change_of behind ++ cuts) (map change_of writes) → file_after (newest_first (map change_of before ++ (map change_of behind ++ cuts))) ≡ []
    → plain (map change_of (before ++ (writes ++ behind)) ++ cuts) ≡ plain (map change_of writes)
alone before writes behind cuts one other none =
    let A : List Change = map change_of before in
    let W : List Change = map change_of writes in
    let B : List Change = map change_of behind in
    let parts : map change_of (before ++ (writes ++ behind)) ++ cuts ≡ A ++ (W ++ (B ++ cuts)) =
    ap (λ l. l ++ cuts) (map-append change_of before (writes ++ behind) ∙ ap (λ l. A ++ l) (map-append change_of writes behind))
    ∙ append_assoc A (W ++ B) cuts
    ∙ ap (λ l. A ++ l) (append_assoc W B cuts) in
    ap plain parts
    ∙ ap file_after (olds_last A W (B ++ cuts) one other)
    ∙ over_both (newest_first W) (newest_first (A ++ (B ++ cuts)))
    ∙ ap (λ file. file_over file (newest_first W)) none
    ∙ over_none (newest_first W)

-- ---- what was gathered

module _ (m start to : Moment) (room : ℕ) (cut : List Gathered) (truncs : List Trunc) (d : Dropping) (writes : List Written) (sound_m : IsSoundAt m) (sound : IsSoundAt to) (v : HasView start to room cut truncs) (its : d.room ≡ room)
    (s : ShowsOnly m d writes) (still : IsStill m to d.room) (first : take (length writes) (issued_by to d) ≡ writes) (holds : HoldsWrites to cut d writes) where
  its_prefix : (g : Gathered) → Among g cut → IsPrefixOf start to g
  its_prefix g a = prefix_of start to cut g v.admissible a

  in_room : (g : Gathered) → Among g cut → g.dropping.room ≡ d.room
  in_room g a = rooms cut v.rise a ∙ sym its
    where
      rooms : (gs : List Gathered) → WritersRise room gs → Among g gs → g.dropping.room ≡ room
      rooms [] rise among = absurd among
      rooms (h ∷ gs) rise (inl same) = ap (λ (x : Gathered). x.dropping.room) same ∙ rise.0
      rooms (h ∷ gs) rise (inr later) = rooms gs rise.2 later

  -- no more of it than had landed
  few : (g : Gathered) → Among g cut → g.count ≤ landed m g.dropping
  few g a =
      let p = its_prefix g a in
      let l = still.no_more_landed g.dropping p.stands.is_item (in_room g a) in
      omega (arith, p.most, ap (λ (es : List Entry). length es) l.1, length-append (landed_by to g.dropping) l.0)

  -- and of the writer its writes
  own_few : (g : Gathered) → Among g cut → g.dropping.writer ≡ d.writer → g.count ≤ length writes
  own_few g a same =
      let p = its_prefix g a in
      let issued : issued_by m g.dropping ≡ writes = ap (λ r. m.issued r g.dropping.writer) (in_room g a) ∙ ap (λ w. m.issued d.room w) same ∙ s.issued in
      omega (arith, few g a, landed_whole m sound_m g.dropping p.stands.is_item, ap (λ (ws : List Written). length ws) issued)

  own_taken : (g : Gathered) → Among g cut → g.dropping ≡ d → length writes ≤ g.count → take g.count (issued_by to g.dropping) ≡ writes
  own_taken g a same enough =
      let count : g.count ≡ length writes = omega (arith, own_few g a (ap (λ (x : Dropping). x.writer) same), enough) in
      ap (λ n. take n (issued_by to g.dropping)) count ∙ ap (λ x. take (length writes) (issued_by to x)) same ∙ first

  none_own : (g : Gathered) → Among g cut → g.dropping.writer ≡ d.writer → writes ≡ [] → take g.count (issued_by to g.dropping) ≡ []
  none_own g a same none = (let count : g.count ≡ 0 = omega (arith, own_few g a same, ap (λ (ws : List Written). length ws) none) in ap (λ n. take n (issued_by to g.dropping)) count)

  -- so its writes are in the cut, and the others are so
  splits : (P : Written → Type 0) → ((g : Gathered) → Among g cut → (g.dropping.writer ≡ d.writer → ⊥) → AllByRecursion P (take g.count (issued_by to g.dropping))) → Splits P to cut writes
  splits P each = by writes refl
    where
      by : (ws : List Written) → writes ≡ ws → Splits P to cut writes
      by [] none = subst (Splits P to cut) (sym none) (no_other P to room cut (λ g a. elim (cases_eq g.dropping.writer d.writer) as (λ _. AllByRecursion P (take g.count (issued_by to g.dropping))) [
        | inl same ↦ subst (AllByRecursion P) (sym (none_own g a same none)) tt
        | inr other ↦ each g a other
      ]))
      by (w ∷ ws) some =
          let found = any_found (λ (g : Gathered). (g.dropping ≡ d) × (length writes ≤ g.count)) cut (holds.counted (omega (arith, ap (λ (l : List Written). length l) some))) in
          split_at P to room cut found.0 writes d.writer v.rise found.1 (ap (λ (x : Dropping). x.writer) found.2.0) (own_taken found.0 found.1 found.2.0 found.2.1) each

  -- the entries of another writer
  others_landed : (P : Entry → Type 0) (g : Gathered) → Among g cut → AllByRecursion P (landed_by m g.dropping) → AllByRecursion (λ (w : Written). P w.entry) (take g.count (issued_by to g.dropping))
  others_landed P g a all =
      let p = its_prefix g a in
      let l = still.no_more_landed g.dropping p.stands.is_item (in_room g a) in
      let own : own_entries to g ≡ take g.count (landed_by to g.dropping) =
      sym (take_less g.count (landed to g.dropping) (entries_in (issued_by to g.dropping)) p.most) ∙ ap (take g.count) (sym (landed_is_first to sound g.dropping p.stands.is_item)) in
      by_entries (take g.count (issued_by to g.dropping)) (subst (AllByRecursion P) (sym (entries_in-take g.count (issued_by to g.dropping) ∙ own)) (All-take P g.count (landed_by to g.dropping) (front (landed_by to g.dropping) l.0 (subst (AllByRecursion P) l.1 all))))
    where
      front : (xs ys : List Entry) → AllByRecursion P (xs ++ ys) → AllByRecursion P xs
      front [] ys both = tt
      front (x ∷ xs) ys both = (both.0, front xs ys both.1)

      by_entries : (ws : List Written) → AllByRecursion P (entries_in ws) → AllByRecursion (λ (w : Written). P w.entry) ws
      by_entries [] each = tt
      by_entries (w ∷ ws) each = (each.0, by_entries ws each.1)

  -- ---- nothing else

  nothing_seen : HasNothingElse m d → view to cut truncs ≡ plain (map change_of writes)
  nothing_seen nothing =
      let x = splits (λ (w : Written). ⊥) (λ g a other. others_landed (λ (e : Entry). ⊥) g a (subst (AllByRecursion (λ (e : Entry). ⊥)) (sym (nothing.none_landed g.dropping (its_prefix g a).stands.is_item (in_room g a) other)) tt)) in
      let before : x.before ≡ [] = none x.before x.all_before in
      let behind : x.behind ≡ [] = none x.behind x.all_behind in
      let cuts : truncs ≡ [] = no_cuts truncs v.all_truncs in
      ap (λ ws. plain (map change_of ws ++ map cut_off truncs)) (x.is ∙ ap (λ b. b ++ (writes ++ x.behind)) before ∙ ap (λ b. writes ++ b) behind ∙ append-nil writes)
      ∙ ap (λ ts. plain (map change_of writes ++ map cut_off ts)) cuts
      ∙ ap plain (append-nil (map change_of writes))
    where
      none : (ws : List Written) → AllByRecursion (λ (w : Written). ⊥) ws → ws ≡ []
      none [] all = refl
      none (w ∷ ws) all = absurd all.0

      no_cuts : (ts : List Trunc) → AreTruncsAt to room ts → ts ≡ []
      no_cuts [] are = refl
      no_cuts (t ∷ ts) are = absurd (nothing.no_truncates t.stamp t.size (still.no_more_truncates t.stamp t.size (subst (λ r. HadTrunc to r t.stamp t.size) (sym its) (all_at (λ (u : Trunc). HadTrunc to room u.stamp u.size) (t ∷ ts) t are.there (inl refl)))))

  -- ---- all else hidden

  module _ (h : IsAllHidden m d writes) where
    abbrev last : Trunc
    last = record { stamp = h.stamp; size = 0 }

    stands_to : HadTrunc to d.room h.stamp 0
    stands_to = still.no_fewer_truncates h.stamp 0 h.stands

    had : (u : Trunc) → Among u truncs → HadTrunc to d.room u.stamp u.size
    had u a = subst (λ r. HadTrunc to r u.stamp u.size) (sym its) (all_at (λ (x : Trunc). HadTrunc to room x.stamp x.size) truncs u v.all_truncs.there a)

    low : (u : Trunc) → Among u truncs → u.stamp ≤ h.stamp
    low u a = h.newest u.stamp u.size (still.no_more_truncates u.stamp u.size (had u a))

    -- no two of one stamp
    same_size : (size : ℕ) → HadTrunc to d.room h.stamp size → size ≡ 0
    same_size size other =
        let a = in_a_room (slice_get sound.shape.tree.rooms d.room) (trunc_path h.stamp size) other.bytes (in_tree to sound d.room (trunc_path h.stamp size) other.bytes other.there) in
        let b = in_a_room (slice_get sound.shape.tree.rooms d.room) (trunc_path h.stamp 0) stands_to.bytes (in_tree to sound d.room (trunc_path h.stamp 0) stands_to.bytes stands_to.there) in
        let both : Some b.0 ≡ Some a.0 = sym b.1 ∙ a.1 in
        let one : b.0 ≡ a.0 = cc in
        (sound.sound.rooms d.room a.0 a.1).truncates h.stamp size 0 other.bytes stands_to.bytes (record { is_item = other.is_item; there = a.2 })
        (subst (λ (r : Room). HasItem r (TruncItem h.stamp 0) stands_to.bytes) one (record { is_item = stands_to.is_item; there = b.2 }))

    hidden_cut : (u : Trunc) → Among u truncs → (u.stamp < h.stamp) ⊎ (u ≡ last)
    hidden_cut u a = elim (cases_lt u.stamp h.stamp) as (λ _. (u.stamp < h.stamp) ⊎ (u ≡ last)) [
      | inl less ↦ inl less
      | inr not_less ↦
          (let same : u.stamp ≡ h.stamp = omega (arith, low u a, not_less) in
          let none : u.size ≡ 0 = same_size u.size (subst (λ k. HadTrunc to d.room k u.size) same (had u a)) in
          inr (λ i. record { stamp = same i; size = none i }))
    ]

    each_cut : (P : Trunc → Type 0) (ts : List Trunc) → ((u : Trunc) → Among u ts → P u) → AllByRecursion P ts
    each_cut P [] each = tt
    each_cut P (u ∷ ts) each = (each u (inl refl), each_cut P ts (λ x a. each x (inr a)))

    hidden_seen : view to cut truncs ≡ plain (map change_of writes)
    hidden_seen =
        let x = splits (IsOld h.stamp) (λ g a other. others_landed (λ (e : Entry). e.stamp < h.stamp) g a (h.older g.dropping (its_prefix g a).stands.is_item (in_room g a) other)) in
        let lows : AllByRecursion (λ (t : Trunc). t.stamp ≤ h.stamp) truncs = each_cut (λ (t : Trunc). t.stamp ≤ h.stamp) truncs low in
        let cuts : List Change = map cut_off truncs in
        let behind : AreBefore (map change_of x.behind ++ cuts) (map change_of writes) = All-append (λ (c : Change). AllByRecursion (IsBefore c) (map change_of writes)) (map change_of x.behind) cuts (olds_before h.stamp x.behind writes x.all_behind h.newer) (cuts_before h.stamp truncs writes lows h.newer) in
        let none : file_after (newest_first (map change_of x.before ++ (map change_of x.behind ++ cuts))) ≡ [] = all_hidden last (map change_of x.before ++ (map change_of x.behind ++ cuts)) refl
        (All-append (IsHiddenBy last) (map change_of x.before) (map change_of x.behind ++ cuts) (olds_hidden last x.before x.all_before)
        (All-append (IsHiddenBy last) (map change_of x.behind) cuts (olds_hidden last x.behind x.all_behind) (cuts_hidden last truncs (each_cut (λ (u : Trunc). (u.stamp < h.stamp) ⊎ (u ≡ last)) truncs hidden_cut))))
        (among_right (Truncate last) (map change_of x.before) (map change_of x.behind ++ cuts) (among_right (Truncate last) (map change_of x.behind) cuts
        (among_cuts last truncs (among truncs last (v.all_truncs.all last (subst (λ r. HadTrunc to r h.stamp 0) its stands_to)))))) in
        ap (λ ws. plain (map change_of ws ++ cuts)) x.is
        ∙ alone x.before writes x.behind cuts (olds_before h.stamp x.before writes x.all_before h.newer) behind none

  pub seen_alone : view to cut truncs ≡ plain (map change_of writes)
  seen_alone = elim s.others as (λ _. view to cut truncs ≡ plain (map change_of writes)) [
    | inl nothing ↦ nothing_seen nothing
    | inr h ↦ hidden_seen h
  ]
