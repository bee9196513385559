-- What a room of a target holds of a writer: one whose files stay, and one that is copied.
use Rattle.std.proofs.Common.{◌≡◌, ℕ, ◌*◌, ◌/◌, ◌≤◌, ◌<◌, ◌^◌, List, [], ◌∷◌, length, min, take, Option, Some, None, refl, ap, sym, ◌∙◌, inl, inr, subst, arith}
use Rattle.std.specs.Prelude.{MatchOption, slice_get}
use Rattle.std.proofs.lemmas.List.{length-take-le}
use Rattle.plfs_types.specs.declared.entries.Entry.{Entry}
use Rattle.plfs_types.specs.declared.names.Path.{Path}
use Rattle.container_layout.specs.declared.items.Item.{Item}
use Rattle.container_layout.specs.declared.items.Item.TheVariants.{OpenHost, Meta, Trunc, Index, Log}
use Rattle.container_layout.specs.Items.{IsItem}
use Rattle.container_layout.specs.Paths.{path_of}
use Rattle.index_entry.specs.Spelling.{spelling_all}
use Rattle.index_entry.proofs.Facts.{length-spelling_all}
use Rattle.store_api.specs.declared.tree.Room.{Room}
use Rattle.store_laws.specs.Files.{file_at, kept_at}
use Rattle.store_laws.specs.Prefix.{IsPrefix}
use Rattle.store_laws.proofs.Facts.{prefix_length}
use Rattle.mount_model.specs.Paths.{index_path, log_path, open_path}
use Rattle.mount_sound.specs.Dropping.{AreBeside, IsDropping, IsKeptWhole, IsWriter, bytes_of, log_bytes}
use Rattle.mount_sound.specs.Entries.{logged}
use Rattle.mount_sound.specs.Growing.{IsMore}
use Rattle.mount_sound.specs.Items.{HasItem, HasMeta}
use Rattle.mount_sound.specs.Keeping.{kept_in}
use Rattle.mount_sound.specs.Ledger.{AreWritesOf, Written, content, entries_in}
use Rattle.mount_sound.proofs.Facts.{AreKept, IsWhole, KeepsEntries, MetasStay, all_take, are_kept, dropping_frame, entries_take, few, first_more, had, had_item_of, has_still, is_index, is_log, is_open, kept_entries, landed_is, length-content, log_frame, logged_take, owner, same_host, take_less, writes_take}
use Rattle.reader_laws.specs.Moments.{Dropping, HadTrunc, IsSoundAt, Moment, Stood, issued_by, landed}
use Rattle.reader_laws.proofs.Gathered.Facts.{in_a_room, in_tree, landed_whole, length-entries, stands}
use Rattle.drain_sound.specs.Fronts.{IsDrainedFrom, IsFrontOf, IsSoundFront, dropping_in}
use Rattle.drain_sound.proofs.FrontLemmas.{front_sound}
use Rattle.drain_sound.proofs.Writes.{more_take, more_trans}

-- ---- a writer whose files stay

-- the item's file is as it was, and as much of it is kept
pub record StaysThere (room new : Room) (item : Item) : Type 0 where
  pub file : file_at new (path_of item) ≡ file_at room (path_of item)
  pub kept : min (kept_at room (path_of item)) (length (bytes_of (file_at room (path_of item)))) ≤ kept_at new (path_of item)

-- so is each item of the writer
abbrev pub WriterStays : ℕ → Room → Room → Type 0
WriterStays writer room new = (item : Item) → IsItem item → owner item ≡ Some writer → StaysThere room new item

-- the truncates of the room are beside the writer's entries
abbrev pub HasBeside : Room → ℕ → List Entry → Type 0
HasBeside room landed entries = (stamp size : ℕ) (inside : List ℕ) → HasItem room (Trunc stamp size) inside → AreBeside stamp (take landed entries)

module _ (room new : Room) (writer : ℕ) (stays : WriterStays writer room new) where
  file : (item : Item) → IsItem item → owner item ≡ Some writer → file_at new (path_of item) ≡ file_at room (path_of item)
  file item is o = (stays item is o).file

  had_its_meta : (host : ℕ) → HasMeta new host writer → HasMeta room host writer
  had_its_meta host m = record { last = m.last; bytes = m.bytes; stamp = m.stamp; content = m.content; has = had room new (Meta m.last m.bytes m.stamp host writer) m.content (λ is. file (Meta m.last m.bytes m.stamp host writer) is refl) m.has }

  still_its_meta : (host : ℕ) → HasMeta room host writer → HasMeta new host writer
  still_its_meta host m = record { last = m.last; bytes = m.bytes; stamp = m.stamp; content = m.content; has = has_still room new (Meta m.last m.bytes m.stamp host writer) m.content (λ is. file (Meta m.last m.bytes m.stamp host writer) is refl) m.has }

  module _ (issued : List Written) (fits : writer < 2 ^ 64) (v : AreWritesOf writer issued) (w : IsWriter room writer issued) where
    logged_within : (k : ℕ) → logged (take k (entries_in issued)) ≤ length (log_bytes room w.host writer)
    logged_within k = omega (arith, prefix_length (content issued) (log_bytes room w.host writer) w.log, length-content issued v.full, logged_take k (entries_in issued))

    settled_stays : IsKeptWhole room w.host writer (take w.landed (entries_in issued)) → IsKeptWhole new w.host writer (take w.landed (entries_in issued))
    settled_stays s =
        let index = stays (Index w.host writer) (is_index w.host writer w.host_fits fits) refl in
        let log = stays (Log w.host writer) (is_log w.host writer w.host_fits fits) refl in
        record {
          index = ap bytes_of index.file ∙ s.index;
          index_kept = omega (arith, s.index_kept, index.kept, ap length s.index, length-spelling_all (take w.landed (entries_in issued)));
          log_kept = omega (arith, s.log_kept, log.kept, logged_within w.landed);
        }

    -- the room holds of it what it held
    pub whole_stays : w.landed ≡ length issued → HasBeside new w.landed (entries_in issued) → IsWhole new writer issued
    whole_stays all beside =
        let index = file (Index w.host writer) (is_index w.host writer w.host_fits fits) refl in
        let log = file (Log w.host writer) (is_log w.host writer w.host_fits fits) refl in
        let opened = file (OpenHost w.host writer) (is_open w.host writer w.host_fits fits) refl in (
          record {
            host = w.host;
            host_fits = w.host_fits;
            one_host = λ other h. w.one_host other (had_item_of room new other writer (λ item is o a. file item is o) h);
            landed = w.landed;
            within = w.within;
            index = dropping_frame room new w.host writer issued w.landed index log w.index;
            log = log_frame room new w.host writer (content issued) log w.log;
            left = λ gone some. still_its_meta w.host (w.left (sym opened ∙ gone) some);
            told = λ last bytes stamp inside h. w.told last bytes stamp inside (had room new (Meta last bytes stamp w.host writer) inside (λ is. file (Meta last bytes stamp w.host writer) is refl) h);
            settled = λ m. settled_stays (w.settled (had_its_meta w.host m));
            beside = beside;
          },
          all,
        )

    -- and keeps of it what it kept
    pub entries_stay : (w' : IsWriter new writer issued) (host : ℕ) (inside : List ℕ) → HasItem room (Index host writer) inside → KeepsEntries room new host writer
    entries_stay w' host inside h =
        let was = are_kept room host writer issued w v inside h in
        let here : host ≡ w.host = same_host room host writer issued w v inside h in
        let index = stays (Index host writer) h.is_item refl in
        let log = stays (Log host writer) (is_log host writer h.is_item.widths.0 h.is_item.widths.1) refl in
        let long : logged (take (kept_in room host writer) (entries_in issued)) ≤ length (log_bytes room host writer) = subst (λ x. logged (take (kept_in room host writer) (entries_in issued)) ≤ length (log_bytes room x writer)) (sym here) (logged_within (kept_in room host writer)) in
        let k : AreKept new host writer issued (kept_in room host writer) = record {
          bytes = was.bytes;
          has = has_still room new (Index host writer) was.bytes (λ is. file (Index host writer) is refl) was.has;
          issued_were = was.issued_were;
          long = was.long;
          index = omega (arith, was.index, was.long, index.kept, ap (λ f. length (bytes_of f)) was.has.there);
          log = omega (arith, was.log, log.kept, long);
        } in
        kept_entries room new host writer issued issued w v w' v inside h refl k (λ last bytes stamp m has. (m, has_still room new (Meta last bytes stamp host writer) m (λ is. file (Meta last bytes stamp host writer) is refl) has))

-- ---- what stands at the source

some_room : (a b : Room) (o : Option Room) → o ≡ Some a → o ≡ Some b → a ≡ b
some_room a b o p q = cc

module _ (source : Moment) (s : IsSoundAt source) (number : ℕ) where
  -- a writer has one host there
  pub one_host_there : (host other writer : ℕ) → Stood source (dropping_in number host writer) → Stood source (dropping_in number other writer) → host ≡ other
  one_host_there host other writer a b =
      let x = stands source s (dropping_in number host writer) a.bytes a.is_item a.there in
      let y = stands source s (dropping_in number other writer) b.bytes b.is_item b.there in
      let same : y.room ≡ x.room = some_room y.room x.room (slice_get s.shape.tree.rooms number) y.there x.there in
      let also : HasItem x.room (Index other writer) b.bytes = record { is_item = b.is_item; there = ap (λ r. file_at r (index_path other writer)) (sym same) ∙ y.at } in
      x.host ∙ sym (x.writer.one_host other (inl (b.bytes, also)))

  -- no truncate there is between two of its landed entries
  pub beside_there : (host writer stamp size : ℕ) → Stood source (dropping_in number host writer) → HadTrunc source number stamp size → AreBeside stamp (take (landed source (dropping_in number host writer)) (entries_in (source.issued number writer)))
  beside_there host writer stamp size a h =
      let d : Dropping = dropping_in number host writer in
      let x = stands source s d a.bytes a.is_item a.there in
      let r = in_a_room (slice_get s.shape.tree.rooms number) (path_of (Trunc stamp size)) h.bytes (in_tree source s number (path_of (Trunc stamp size)) h.bytes h.there) in
      let same : r.0 ≡ x.room = some_room r.0 x.room (slice_get s.shape.tree.rooms number) r.1 x.there in
      let has : HasItem x.room (Trunc stamp size) h.bytes = record { is_item = h.is_item; there = ap (λ y. file_at y (path_of (Trunc stamp size))) (sym same) ∙ r.2 } in
      let count : x.writer.landed ≡ landed source d =
      landed_is x.room host writer (issued_by source d) a.bytes x.writer (record { is_item = a.is_item; there = x.at })
      ∙ ap (λ f. min (length (bytes_of f) / 40) (length (issued_by source d))) (sym a.there)
      ∙ sym (landed_whole source s d a.is_item) in
      subst (λ n. AreBeside stamp (take n (entries_in (source.issued number writer)))) count (x.writer.beside stamp size h.bytes has)

  -- no two truncates there have one stamp
  pub truncates_there : (stamp size other : ℕ) → HadTrunc source number stamp size → HadTrunc source number stamp other → size ≡ other
  truncates_there stamp size other a b =
      let x = in_a_room (slice_get s.shape.tree.rooms number) (path_of (Trunc stamp size)) a.bytes (in_tree source s number (path_of (Trunc stamp size)) a.bytes a.there) in
      let y = in_a_room (slice_get s.shape.tree.rooms number) (path_of (Trunc stamp other)) b.bytes (in_tree source s number (path_of (Trunc stamp other)) b.bytes b.there) in
      let same : y.0 ≡ x.0 = some_room y.0 x.0 (slice_get s.shape.tree.rooms number) y.1 x.1 in
      (s.sound.rooms number x.0 x.1).truncates stamp size other a.bytes b.bytes (record { is_item = a.is_item; there = x.2 }) (record { is_item = b.is_item; there = ap (λ r. file_at r (path_of (Trunc stamp other))) (sym same) ∙ y.2 })

  beside_take : (stamp n : ℕ) (es : List Entry) → AreBeside stamp es → AreBeside stamp (take n es)
  beside_take stamp n es (inl below) = inl (all_take (λ (e : Entry). e.stamp < stamp) n es below)
  beside_take stamp n es (inr above) = inr (all_take (λ (e : Entry). stamp < e.stamp) n es above)

  -- ---- a writer whose files stay, where truncates come

  none_taken : (stamp n : ℕ) (es : List Entry) → n ≡ 0 → AreBeside stamp (take n es)
  none_taken stamp n [] e = subst (λ k. AreBeside stamp (take k [])) (sym e) (inl tt)
  none_taken stamp n (x ∷ es) e = subst (λ k. AreBeside stamp (take k (x ∷ es))) (sym e) (inl tt)

  whole_length : (n k m len : ℕ) → n ≡ min (len / 40) k → len ≤ 40 * m → n ≤ m
  whole_length n k m len e l = omega arith

  -- no more of it has landed than there
  pub few_landed : (room : Room) (writer : ℕ) (issued : List Written) → IsDrainedFrom source number room → (w : IsWriter room writer issued) (bytes : List ℕ) → HasItem room (Index w.host writer) bytes → w.landed ≤ landed source (dropping_in number w.host writer)
  few_landed room writer issued d w bytes item =
      let f : IsFrontOf source number room w.host writer = d.fronts w.host writer item.is_item in
      let l : ℕ = landed source (dropping_in number w.host writer) in
      let es : List Entry = entries_in (source.issued number writer) in
      let long : length bytes ≤ 40 * length (take l es) = omega (arith, prefix_length (bytes_of (file_at room (index_path w.host writer))) (spelling_all (take l es)) f.index, ap (λ x. length (bytes_of x)) item.there, length-spelling_all (take l es)) in
      let most : length (take l es) ≤ l = few l es in
      whole_length w.landed (length issued) l (length bytes) (landed_is room w.host writer issued bytes w item) (omega (arith, long, most))

  -- its entries are some of the first that have landed there, so that no truncate of the source is between them
  pub beside_first : (room : Room) (writer : ℕ) (issued : List Written) → writer < 2 ^ 64 → IsDrainedFrom source number room → (w : IsWriter room writer issued) → w.landed ≡ length issued → IsMore issued (source.issued number writer)
      → (stamp size : ℕ) → HadTrunc source number stamp size → AreBeside stamp (take w.landed (entries_in issued))
  beside_first room writer issued fits d w all more stamp size h = by_file (file_at room (index_path w.host writer)) refl w.index
    where
      by_file : (found : Option (List ℕ)) → file_at room (index_path w.host writer) ≡ found → MatchOption found (w.landed ≡ 0) (IsDropping writer issued w.landed (length (log_bytes room w.host writer))) → AreBeside stamp (take w.landed (entries_in issued))
      by_file None e none = none_taken stamp w.landed (entries_in issued) none
      by_file (Some bytes) e dropping =
          let item : HasItem room (Index w.host writer) bytes = record { is_item = is_index w.host writer w.host_fits fits; there = e } in
          let stood : Stood source (dropping_in number w.host writer) = d.hosts w.host writer (inl (bytes, item)) in
          let l : ℕ = landed source (dropping_in number w.host writer) in
          let es : List Entry = entries_in (source.issued number writer) in
          let count : w.landed ≤ l = few_landed room writer issued d w bytes item in
          let same : take w.landed (take l es) ≡ take w.landed (entries_in issued) = take_less w.landed l es count ∙ first_more w.landed issued (source.issued number writer) more (omega (arith, all)) in
          subst (AreBeside stamp) same (beside_take stamp w.landed (take l es) (beside_there w.host writer stamp size stood h))

  -- ---- a writer that is copied

  -- what the room has then of its writes: as many of the source's as its droppings have
  pub record CopiedWhole (room : Room) (host writer : ℕ) : Type 0 where
    pub issued : List Written
    pub whole : IsWhole room writer issued
    pub writes : AreWritesOf writer issued
    pub first : IsMore issued (source.issued number writer)
    pub all : (k : ℕ) → 40 * k ≤ length (bytes_of (file_at room (index_path host writer))) → logged (take k (entries_in (source.issued number writer))) ≤ length (log_bytes room host writer) → k ≤ length issued

  module _ (room : Room) (host writer : ℕ) (d : IsDrainedFrom source number room) (stood : Stood source (dropping_in number host writer)) (opened : file_at room (open_path host writer) ≡ Some []) (unsettled : HasMeta room host writer → ⊥) where
    l : ℕ
    l = landed source (dropping_in number host writer)

    there : List Written
    there = take l (source.issued number writer)

    its_writes : AreWritesOf writer (source.issued number writer)
    its_writes = s.sound.writes number writer

    l_within : l ≤ length (source.issued number writer)
    unfolding l
    l_within = omega (arith, landed_whole source s (dropping_in number host writer) stood.is_item)

    there_length : length there ≡ l
    unfolding there
    there_length = length-take-le l (source.issued number writer) l_within

    there_entries : entries_in there ≡ take l (entries_in (source.issued number writer))
    unfolding there
    there_entries = entries_take l (source.issued number writer)

    there_writes : AreWritesOf writer there
    unfolding there
    there_writes = writes_take l writer (source.issued number writer) its_writes

    front : IsFrontOf source number room host writer
    front = d.fronts host writer stood.is_item

    sound : IsSoundFront writer there (bytes_of (file_at room (index_path host writer))) (log_bytes room host writer)
    unfolding there l
    sound = front_sound writer there (bytes_of (file_at room (index_path host writer))) (log_bytes room host writer) (writes_take l writer (source.issued number writer) its_writes)
        (subst (λ es. IsPrefix (bytes_of (file_at room (index_path host writer))) (spelling_all es)) (sym there_entries) front.index) front.log

    clash : (o : Option (List ℕ)) (bytes : List ℕ) → o ≡ Some bytes → o ≡ None → ⊥
    clash o bytes p q = cc

    its_beside : (n : ℕ) → HasBeside room n (entries_in (take n there))
    unfolding there l
    its_beside n stamp size inside h =
        subst (λ es. AreBeside stamp (take n es)) (ap (λ es. take n es) (sym there_entries) ∙ sym (entries_take n there))
        (beside_take stamp n (take n (take l (entries_in (source.issued number writer)))) (beside_take stamp n (take l (entries_in (source.issued number writer))) (beside_there host writer stamp size stood (d.truncates stamp size inside h))))

    -- it is sound for these writes
    its_writer : (n : ℕ) → n ≤ length there → MatchOption (file_at room (index_path host writer)) (n ≡ 0) (IsDropping writer (take n there) n (length (log_bytes room host writer))) → IsPrefix (content (take n there)) (log_bytes room host writer) → IsWhole room writer (take n there)
    its_writer n within index log = (
      record {
        host = host;
        host_fits = stood.is_item.widths.0;
        one_host = λ other i. one_host_there other host writer (d.hosts other writer i) stood;
        landed = n;
        within = omega (arith, length-take-le n there within);
        index = index;
        log = log;
        left = λ gone some. absurd (clash (file_at room (open_path host writer)) [] opened gone);
        told = λ last bytes stamp inside h. absurd (unsettled (record { last = last; bytes = bytes; stamp = stamp; content = inside; has = h }));
        settled = λ m. absurd (unsettled m);
        beside = its_beside n;
      },
      sym (length-take-le n there within),
    )

    its_first : (n : ℕ) → IsMore (take n there) (source.issued number writer)
    unfolding there
    its_first n = more_trans (take n there) there (source.issued number writer) (more_take n there) (more_take l (source.issued number writer))

    none : (n : ℕ) (found : Option (List ℕ)) → n ≡ 0 → found ≡ None → MatchOption found (n ≡ 0) (IsDropping writer (take n there) n (length (log_bytes room host writer)))
    none n None zero_is e = zero_is
    none n (Some bytes) zero_is e = absurd (cc)

    some : (found : Option (List ℕ)) (bytes : List ℕ) → found ≡ Some bytes → IsDropping writer (take sound.count there) sound.count (length (log_bytes room host writer)) (bytes_of found) → MatchOption found (sound.count ≡ 0) (IsDropping writer (take sound.count there) sound.count (length (log_bytes room host writer)))
    some None bytes e dropping = absurd (cc)
    some (Some x) bytes e dropping = dropping

    nothing : (ws : List Written) → content (take 0 ws) ≡ []
    nothing [] = refl
    nothing (w ∷ ws) = refl

    -- so many lie within what has landed there
    within_landed : (k : ℕ) → 40 * k ≤ length (bytes_of (file_at room (index_path host writer))) → k ≤ l
    unfolding l
    within_landed k long =
        let es : List Entry = take l (entries_in (source.issued number writer)) in
        let most : length es ≡ l = length-take-le l (entries_in (source.issued number writer)) (omega (arith, l_within, length-entries (source.issued number writer))) in
        omega (arith, long, prefix_length (bytes_of (file_at room (index_path host writer))) (spelling_all es) front.index, length-spelling_all es, most)

    by_index : (found : Option (List ℕ)) → file_at room (index_path host writer) ≡ found → CopiedWhole room host writer
    by_index None e = record {
      issued = take 0 there;
      whole = its_writer 0 (omega arith) (none 0 (file_at room (index_path host writer)) refl e) (subst (λ c. IsPrefix c (log_bytes room host writer)) (sym (nothing there)) tt);
      writes = writes_take 0 writer there there_writes;
      first = its_first 0;
      all = λ k long logs. omega (arith, long, ap (λ f. length (bytes_of f)) e);
    }
    by_index (Some bytes) e = record {
      issued = take sound.count there;
      whole = its_writer sound.count sound.within (some (file_at room (index_path host writer)) bytes e sound.dropping) sound.logs;
      writes = writes_take sound.count writer there there_writes;
      first = its_first sound.count;
      all = λ k long logs.
          let within : k ≤ l = within_landed k long in
          let same : take k (entries_in there) ≡ take k (entries_in (source.issued number writer)) = ap (λ es. take k es) there_entries ∙ take_less k l (entries_in (source.issued number writer)) within in
          omega (arith, sound.all k (omega (arith, within, there_length)) long (omega (arith, logs, ap logged same)), length-take-le sound.count there sound.within);
    }

    pub copied_whole : CopiedWhole room host writer
    copied_whole = by_index (file_at room (index_path host writer)) refl

-- ---- the entries that are kept of it

-- what was kept of the first bytes of the file is there, and kept
pub record FrontStays (new : Room) (path : Path) (front : ℕ) : Type 0 where
  pub bytes : List ℕ
  pub there : file_at new path ≡ Some bytes
  pub long : front ≤ length bytes
  pub kept : front ≤ kept_at new path

abbrev pub FrontsStay : Room → Room → Path → Type 0
FrontsStay room new path = (old : List ℕ) → file_at room path ≡ Some old → (front : ℕ) → front ≤ length old → front ≤ kept_at room path → FrontStays new path front

no_shorter : (room new : Room) (path : Path) (front : ℕ) (found : Option (List ℕ)) → file_at room path ≡ found → FrontsStay room new path → front ≤ length (bytes_of found) → front ≤ kept_at room path → (front ≤ length (bytes_of (file_at new path))) × (front ≤ kept_at new path)
no_shorter room new path front None e stays long kept = (omega (arith, long), omega (arith, long))
no_shorter room new path front (Some old) e stays long kept = let f = stays old e front long kept in (omega (arith, f.long, ap (λ o. length (bytes_of o)) f.there), f.kept)

-- of a copied writer no less is kept than was
pub copied_keeps : (source : Moment) (s : IsSoundAt source) (number : ℕ) (room new : Room) (host writer : ℕ) (few : List Written) → AreWritesOf writer few → IsWriter room writer few → IsMore few (source.issued number writer) → IsDrainedFrom source number room → Stood source (dropping_in number host writer)
    → FrontsStay room new (index_path host writer) → FrontsStay room new (log_path host writer) → MetasStay room new host writer → CopiedWhole source s number new host writer
    → (other : ℕ) (inside : List ℕ) → HasItem room (Index other writer) inside → KeepsEntries room new other writer
copied_keeps source s number room new host writer few v w more d stood index log metas c other inside h =
    let same : other ≡ host = one_host_there source s number other host writer (d.hosts other writer (inl (inside, h))) stood in
    subst (λ x. KeepsEntries room new x writer) (sym same) (at_host (subst (λ x. HasItem room (Index x writer) inside) same h))
  where
    at_host : HasItem room (Index host writer) inside → KeepsEntries room new host writer
    at_host i =
        let was = are_kept room host writer few w v inside i in
        let n : ℕ = kept_in room host writer in
        let here : host ≡ w.host = same_host room host writer few w v inside i in
        let logs : logged (take n (entries_in few)) ≤ length (log_bytes room host writer) = subst (λ x. logged (take n (entries_in few)) ≤ length (log_bytes room x writer)) (sym here) (omega (arith, prefix_length (content few) (log_bytes room w.host writer) w.log, length-content few v.full, logged_take n (entries_in few))) in
        let f = index was.bytes was.has.there (40 * n) was.long was.index in
        let g = no_shorter room new (log_path host writer) (logged (take n (entries_in few))) (file_at room (log_path host writer)) refl log logs was.log in
        let early : take n (entries_in (source.issued number writer)) ≡ take n (entries_in few) = first_more n few (source.issued number writer) more was.issued_were in
        let count : n ≤ length c.issued = c.all n (omega (arith, f.long, ap (λ o. length (bytes_of o)) f.there)) (omega (arith, g.0, ap logged early)) in
        let now : take n (entries_in c.issued) ≡ take n (entries_in few) = sym (first_more n c.issued (source.issued number writer) c.first count) ∙ early in
        kept_entries room new host writer few c.issued w v c.whole.0 c.writes inside i now
        (record {
          bytes = f.bytes;
          has = record { is_item = i.is_item; there = f.there };
          issued_were = count;
          long = f.long;
          index = f.kept;
          log = omega (arith, g.1, ap logged now);
        })
        metas
