-- What a loss of power leaves of a writer.
use Rattle.std.proofs.Common.{◌≡◌, ℕ, ◌+◌, ◌*◌, ◌≤◌, ◌<◌, ◌^◌, List, [], ◌∷◌, ◌++◌, length, take, drop, min, Option, Some, None, refl, ap, sym, ◌∙◌, inl, inr, subst, arith, length-append}
use Rattle.std.specs.Prelude.{MatchOption}
use Rattle.std.proofs.lemmas.List.{length-take-le, length-map, take-append-drop, take-append-le}
use Rattle.plfs_types.specs.declared.names.Path.{Path}
use Rattle.plfs_types.specs.declared.entries.Entry.{Entry}
use Rattle.index_entry.specs.Spelling.{spelling, spelling_all}
use Rattle.index_entry.proofs.Facts.{length-spelling, length-spelling_all}
use Rattle.container_layout.specs.declared.items.Item.{Item}
use Rattle.container_layout.specs.declared.items.Item.TheVariants.{OpenHost, Meta, Trunc, Index}
use Rattle.container_layout.specs.Paths.{path_of}
use Rattle.store_api.specs.declared.tree.Room.{Room}
use Rattle.store_laws.specs.Files.{file_at, kept_at}
use Rattle.store_laws.specs.Prefix.{IsPrefix}
use Rattle.store_laws.specs.Losing.{HasLost}
use Rattle.store_laws.proofs.Facts.{file_back, prefix_trans, prefix_length, kept_at_none, none_in}
use Rattle.mount_model.specs.Paths.{open_path, index_path, log_path}
use Rattle.mount_sound.specs.Entries.{AreEntriesOf, logged, last_stamp}
use Rattle.mount_sound.specs.Ledger.{Written, entries_in, content, AreWritesOf}
use Rattle.mount_sound.specs.Items.{HasItem, HasMeta, HasItemOf}
use Rattle.mount_sound.specs.Dropping.{bytes_of, log_bytes, EndPast, IsDropping, IsKeptWhole, IsToldOf, AreBeside, IsWriter}
use Rattle.mount_sound.specs.Fitting.{fitting}
use Rattle.mount_sound.specs.Keeping.{kept_in}
use Rattle.mount_sound.proofs.Facts.{AreKept, KeepsEntries, are_kept, kept_entries, kept_landed, kept_long, same_host, fit_length, fit_within, fit_past, fit_least, fit_below, front_of_front, front_items, order_append, order_drop, logged_append, logged_parts, take_less, all_take, content_take, in_order_take, logged_take, entries_take as entries_first, entries_landed, writes_take, length-content}

-- ---- the bytes of a file, where a missing one counts as empty

record LostBytes (room new : Room) (path : Path) : Type 0 where
  begins : IsPrefix (bytes_of (file_at new path)) (bytes_of (file_at room path))
  long : min (kept_at room path) (length (bytes_of (file_at room path))) ≤ length (bytes_of (file_at new path))
  kept : kept_at new path ≡ length (bytes_of (file_at new path))

lost_found : (room new : Room) (path : Path) (found : Option (List ℕ)) → HasLost room new → file_at room path ≡ found → LostBytes room new path
lost_found room new path None h e =
    let none = h.none path e in
    record {
      begins = subst (λ f. IsPrefix (bytes_of f) (bytes_of (file_at room path))) (sym none) tt;
      long = omega (arith, ap (λ f. length (bytes_of f)) e);
      kept = kept_at_none new path (none_in new path none) ∙ sym (ap (λ f. length (bytes_of f)) none);
    }
lost_found room new path (Some bytes) h e =
    let l = h.files path bytes e in
    record {
      begins = subst (λ f. IsPrefix (bytes_of f) (bytes_of (file_at room path))) (sym l.there) (subst (λ f. IsPrefix l.front (bytes_of f)) (sym e) l.begins);
      long = omega (arith, l.long, ap (λ f. length (bytes_of f)) e, ap (λ f. length (bytes_of f)) l.there);
      kept = l.kept ∙ sym (ap (λ f. length (bytes_of f)) l.there);
    }

lost_bytes : (room new : Room) (path : Path) → HasLost room new → LostBytes room new path
lost_bytes room new path h = lost_found room new path (file_at room path) h refl

-- ---- items

pub had_item : (room new : Room) (item : Item) (front : List ℕ) → HasLost room new → HasItem new item front → (bytes : List ℕ) × HasItem room item bytes
had_item room new item front h i = let b = file_back room new (path_of item) front h i.there in (b.0, record { is_item = i.is_item; there = b.1 })

pub had_meta : (room new : Room) (host writer : ℕ) → HasLost room new → HasMeta new host writer → HasMeta room host writer
had_meta room new host writer h m =
    let i = had_item room new (Meta m.last m.bytes m.stamp host writer) m.content h m.has in
    record { last = m.last; bytes = m.bytes; stamp = m.stamp; content = i.0; has = i.1 }

has_meta : (room new : Room) (host writer : ℕ) → HasLost room new → HasMeta room host writer → HasMeta new host writer
has_meta room new host writer h m =
    let l = h.files (path_of (Meta m.last m.bytes m.stamp host writer)) m.content m.has.there in
    record { last = m.last; bytes = m.bytes; stamp = m.stamp; content = l.front; has = record { is_item = m.has.is_item; there = l.there } }

had_item_of : (room new : Room) (host writer : ℕ) → HasLost room new → HasItemOf new host writer → HasItemOf room host writer
had_item_of room new host writer h (inl i) = inl (had_item room new (Index host writer) i.0 h i.1)
had_item_of room new host writer h (inr (inl i)) = inr (inl (had_item room new (OpenHost host writer) i.0 h i.1))
had_item_of room new host writer h (inr (inr m)) = inr (inr (had_meta room new host writer h m))

still_none : (room new : Room) (path : Path) (found : Option (List ℕ)) → HasLost room new → file_at room path ≡ found → file_at new path ≡ None → file_at room path ≡ None
still_none room new path None h e gone = e
still_none room new path (Some bytes) h e gone = let l = h.files path bytes e in let there = l.there in absurd (cc)

-- ---- the index dropping

-- so many entries have landed in what was left of it, beside a log of so many bytes
pub record IndexLost (writer : ℕ) (issued : List Written) (landed log : ℕ) (file : Option (List ℕ)) : Type 0 where
  pub count : ℕ
  pub within : count ≤ landed
  pub index : MatchOption file (count ≡ 0) (IsDropping writer (take count issued) count log)
  pub fits : logged (take count (entries_in issued)) ≤ log
  pub keeps : (k : ℕ) → k ≤ landed → 40 * k ≤ length (bytes_of file) → logged (take k (entries_in issued)) ≤ log → k ≤ count

nothing_kept : (k : ℕ) → 40 * k ≤ 0 → k ≤ 0
nothing_kept k l = omega arith

no_index_left : (writer : ℕ) (issued : List Written) (landed log : ℕ) (file : Option (List ℕ)) → file ≡ None → IndexLost writer issued landed log file
no_index_left writer issued landed log file none = record {
  count = 0;
  within = omega arith;
  index = subst (λ f. MatchOption f (◌≡◌ {A = ℕ} 0 0) (IsDropping writer (take 0 issued) 0 log)) (sym none) refl;
  fits = omega (arith, logged_none (entries_in issued));
  keeps = λ k l long w. nothing_kept k (omega (arith, long, ap (λ f. length (bytes_of f)) none));
}
  where
    logged_none : (es : List Entry) → logged (take 0 es) ≡ 0
    logged_none [] = refl
    logged_none (e ∷ es) = refl

module _ (writer : ℕ) (issued : List Written) (landed log log' : ℕ) (bytes front : List ℕ) (d : IsDropping writer issued landed log bytes) (within : landed ≤ length issued) (v : AreWritesOf writer issued) (shorter : log' ≤ log) (begins : IsPrefix front bytes) where
  es : List Entry
  es = entries_in issued

  first : List Entry
  first = take landed es

  all : List Entry
  all = first ++ d.more

  has_all : length first ≡ landed
  unfolding first es
  has_all = length-take-le landed (entries_in issued) (omega (arith, within, length-map issued (λ (w : Written). w.entry)))

  parts : (m : ℕ) × (rest : List ℕ) × (front ≡ spelling_all (take m all) ++ rest) × (length rest < 40) × (m ≤ length all)
  unfolding all first es
  parts = front_items spelling 40 (λ e. length-spelling e) (omega arith) front (take landed (entries_in issued) ++ d.more) d.tail (subst (IsPrefix front) d.spelled begins) d.torn

  left : List Entry
  left = take parts.0 all

  count : ℕ
  count = fitting log' 0 left

  few : count ≤ landed
  unfolding count left all first es
  few = omega (arith, fit_below log log' 0 (take landed (entries_in issued)) d.more parts.0 shorter (subst (λ n. EndPast log n d.more) (omega arith) d.past), has_all)

  few_left : count ≤ length left
  unfolding count
  few_left = fit_length log' 0 left

  -- the first ones that were left are the first that were issued
  same_first : (k : ℕ) → k ≤ landed → k ≤ parts.0 → take k left ≡ take k es
  unfolding left all first es
  same_first k l m = take_less k parts.0 all m ∙ take-append-le k first d.more (omega (arith, l, has_all)) ∙ take_less k landed (entries_in issued) l

  left_length : length left ≡ parts.0
  unfolding left
  left_length = length-take-le parts.0 all parts.4

  counted : take count left ≡ take count es
  counted = same_first count few (omega (arith, few_left, left_length))

  as_issued : take count left ≡ take count (entries_in (take count issued))
  unfolding es
  as_issued = counted ∙ sym (entries_landed count issued)

  left_order : AreEntriesOf writer 0 0 left
  unfolding left all first es
  left_order = in_order_take parts.0 writer 0 0 (take landed (entries_in issued) ++ d.more) (order_append writer 0 0 (take landed (entries_in issued)) d.more (in_order_take landed writer 0 0 (entries_in issued) v.in_order) (subst (λ n. AreEntriesOf writer (last_stamp 0 (take landed (entries_in issued))) n d.more) (omega arith) d.in_order))

  left_small : logged left ≤ 2 ^ 56
  unfolding left all first es
  left_small = omega (arith, logged_take parts.0 all, logged_append first d.more, d.few, v.small, logged_take landed (entries_in issued))

  lost_dropping : IsDropping writer (take count issued) count log' front
  unfolding count left
  lost_dropping = record {
    more = drop count left;
    tail = parts.1;
    spelled = parts.2 ∙ ap (λ l. spelling_all l ++ parts.1) (sym (take-append-drop count left) ∙ ap (λ l. l ++ drop count left) as_issued);
    torn = parts.3;
    in_order = subst (λ l. AreEntriesOf writer (last_stamp 0 l) (logged l) (drop count left)) as_issued (subst (λ n. AreEntriesOf writer (last_stamp 0 (take count left)) n (drop count left)) (omega arith) (order_drop count writer 0 0 left left_order));
    few = omega (arith, left_small, logged_parts count left, ap logged as_issued);
    past = subst (λ l. EndPast log' (logged l) (drop count left)) as_issued (subst (λ n. EndPast log' n (drop count left)) (omega arith) (fit_past log' 0 left));
    behind = inr (sym (length-take-le count issued (omega (arith, few, within))));
  }

  lost_fits : logged (take count es) ≤ log'
  unfolding count
  lost_fits = omega (arith, fit_within log' 0 left (omega arith), ap logged counted)

  front_length : length front ≡ 40 * parts.0 + length parts.1
  front_length = omega (arith, ap length parts.2, length-append (spelling_all (take parts.0 all)) parts.1, length-spelling_all (take parts.0 all), length-take-le parts.0 all parts.4)

  lost_keeps : (k : ℕ) → k ≤ landed → 40 * k ≤ length front → logged (take k es) ≤ log' → k ≤ count
  unfolding count
  lost_keeps k l long w =
      let whole : k ≤ parts.0 = omega (arith, long, front_length, parts.3) in
      fit_least log' 0 left k (omega (arith, whole, left_length)) (omega (arith, w, ap logged (same_first k l whole)))

  pub index_lost : IndexLost writer issued landed log' (Some front)
  unfolding es
  index_lost = record { count = count; within = few; index = lost_dropping; fits = lost_fits; keeps = lost_keeps }

by_file : (room new : Room) (writer host : ℕ) (issued : List Written) (landed : ℕ) (found : Option (List ℕ)) → HasLost room new → file_at room (index_path host writer) ≡ found → MatchOption found (landed ≡ 0) (IsDropping writer issued landed (length (log_bytes room host writer)))
    → landed ≤ length issued → AreWritesOf writer issued → length (log_bytes new host writer) ≤ length (log_bytes room host writer) → IndexLost writer issued landed (length (log_bytes new host writer)) (file_at new (index_path host writer))
by_file room new writer host issued landed None h e m within v shorter = no_index_left writer issued landed (length (log_bytes new host writer)) (file_at new (index_path host writer)) (h.none (index_path host writer) e)
by_file room new writer host issued landed (Some bytes) h e m within v shorter =
    let l = h.files (index_path host writer) bytes e in
    subst (IndexLost writer issued landed (length (log_bytes new host writer))) (sym l.there)
    (index_lost writer issued landed (length (log_bytes room host writer)) (length (log_bytes new host writer)) bytes l.front m within v shorter l.begins)

-- ---- the writer

-- The room that was left holds of this writer its first writes, so many, and those have landed; the entries that were
-- kept, with their bytes, are among them, and are kept.
pub record WriterLost (room new : Room) (writer : ℕ) (issued : List Written) : Type 0 where
  pub was : IsWriter room writer issued
  pub count : ℕ
  pub within : count ≤ was.landed
  pub of : IsWriter new writer (take count issued)
  pub all : of.landed ≡ length (take count issued)
  pub entries : (host : ℕ) (bytes : List ℕ) → HasItem room (Index host writer) bytes → KeepsEntries room new host writer

beside_take : (stamp n : ℕ) (es : List Entry) → AreBeside stamp es → AreBeside stamp (take n es)
beside_take stamp n es (inl below) = inl (all_take (λ (e : Entry). e.stamp < stamp) n es below)
beside_take stamp n es (inr above) = inr (all_take (λ (e : Entry). stamp < e.stamp) n es above)

pub same_length : (a b : List ℕ) → IsPrefix a b → length b ≤ length a → a ≡ b
same_length [] [] p l = refl
same_length [] (y ∷ b) p l = absurd (omega arith)
same_length (x ∷ a) [] p l = absurd p
same_length (x ∷ a) (y ∷ b) p l = ap (λ z. z ∷ a) p.0 ∙ ap (λ c. y ∷ c) (same_length a b p.1 (omega arith))

module _ (room new : Room) (writer : ℕ) (issued : List Written) (w : IsWriter room writer issued) (v : AreWritesOf writer issued) (h : HasLost room new) where
  log : LostBytes room new (log_path w.host writer)
  log = lost_bytes room new (log_path w.host writer) h

  index : LostBytes room new (index_path w.host writer)
  index = lost_bytes room new (index_path w.host writer) h

  shorter : length (log_bytes new w.host writer) ≤ length (log_bytes room w.host writer)
  shorter = prefix_length (log_bytes new w.host writer) (log_bytes room w.host writer) log.begins

  lost : IndexLost writer issued w.landed (length (log_bytes new w.host writer)) (file_at new (index_path w.host writer))
  lost = by_file room new writer w.host issued w.landed (file_at room (index_path w.host writer)) h refl w.index w.within v shorter

  has_landed : length (take w.landed (entries_in issued)) ≡ w.landed
  has_landed = length-take-le w.landed (entries_in issued) (omega (arith, w.within, length-map issued (λ (x : Written). x.entry)))

  log_has : (k : ℕ) → logged (take k (entries_in issued)) ≤ length (log_bytes room w.host writer)
  log_has k = omega (arith, prefix_length (content issued) (log_bytes room w.host writer) w.log, length-content issued v.full, logged_take k (entries_in issued))

  keeps : (k : ℕ) → k ≤ w.landed → 40 * k ≤ kept_at room (index_path w.host writer) → 40 * k ≤ length (bytes_of (file_at room (index_path w.host writer))) → logged (take k (entries_in issued)) ≤ kept_at room (log_path w.host writer) → k ≤ lost.count
  keeps k l kept long logs = lost.keeps k l (omega (arith, kept, long, index.long)) (omega (arith, logs, log_has k, log.long))

  -- nothing is lost of a writer that has a metadata dropping
  none_lost : HasMeta room w.host writer → lost.count ≡ w.landed
  none_lost m =
      let s = w.settled m in
      let all : w.landed ≤ lost.count = keeps w.landed (omega arith) (omega (arith, s.index_kept, has_landed)) (omega (arith, ap length s.index, length-spelling_all (take w.landed (entries_in issued)), has_landed)) s.log_kept in
      omega (arith, all, lost.within)

  told_entries : HasMeta room w.host writer → take w.landed (entries_in issued) ≡ take lost.count (entries_in (take lost.count issued))
  told_entries m = ap (λ n. take n (entries_in issued)) (sym (none_lost m)) ∙ sym (entries_landed lost.count issued)

  still_settled : HasMeta room w.host writer → IsKeptWhole new w.host writer (take w.landed (entries_in issued))
  still_settled m =
      let s = w.settled m in
      let len : length (bytes_of (file_at room (index_path w.host writer))) ≡ 40 * w.landed = omega (arith, ap length s.index, length-spelling_all (take w.landed (entries_in issued)), has_landed) in
      let whole : bytes_of (file_at new (index_path w.host writer)) ≡ bytes_of (file_at room (index_path w.host writer)) = same_length _ _ index.begins (omega (arith, index.long, len, s.index_kept, has_landed)) in
      record {
        index = whole ∙ s.index;
        index_kept = omega (arith, index.kept, ap length whole, len, has_landed);
        log_kept = omega (arith, log.kept, log.long, s.log_kept, log_has w.landed);
      }

  left_writer : IsWriter new writer (take lost.count issued)
  left_writer = record {
    host = w.host;
    host_fits = w.host_fits;
    one_host = λ other i. w.one_host other (had_item_of room new other writer h i);
    landed = lost.count;
    within = omega (arith, length-take-le lost.count issued (omega (arith, lost.within, w.within)));
    index = lost.index;
    log = front_of_front (content (take lost.count issued)) (log_bytes new w.host writer) (log_bytes room w.host writer)
        (prefix_trans (content (take lost.count issued)) (content issued) (log_bytes room w.host writer) (content_take lost.count issued) w.log) log.begins
        (omega (arith, length-content (take lost.count issued) (writes_take lost.count writer issued v).full, ap logged (entries_first lost.count issued), lost.fits));
    left = λ gone some. has_meta room new w.host writer h (w.left (still_none room new (open_path w.host writer) (file_at room (open_path w.host writer)) h refl gone) (omega (arith, some, lost.within)));
    told = λ last bytes stamp inside i.
        let was = had_item room new (Meta last bytes stamp w.host writer) inside h i in
        let m : HasMeta room w.host writer = record { last = last; bytes = bytes; stamp = stamp; content = was.0; has = was.1 } in
        subst (IsToldOf last bytes stamp) (told_entries m) (w.told last bytes stamp was.0 was.1);
    settled = λ m. let was = had_meta room new w.host writer h m in subst (IsKeptWhole new w.host writer) (told_entries was) (still_settled was);
    beside = λ stamp size inside i.
        let was = had_item room new (Trunc stamp size) inside h i in
        subst (AreBeside stamp) (take_less lost.count w.landed (entries_in issued) lost.within ∙ sym (entries_landed lost.count issued)) (beside_take stamp lost.count (take w.landed (entries_in issued)) (w.beside stamp size was.0 was.1));
  }

  -- ---- the entries that were kept

  module _ (host : ℕ) (bytes : List ℕ) (i : HasItem room (Index host writer) bytes) where
    kept : AreKept room host writer issued (kept_in room host writer)
    kept = are_kept room host writer issued w v bytes i

    its_host : host ≡ w.host
    its_host = same_host room host writer issued w v bytes i

    still_kept : kept_in room host writer ≤ lost.count
    still_kept =
        let at : file_at room (index_path w.host writer) ≡ Some bytes = ap (λ x. file_at room (index_path x writer)) (sym its_host) ∙ i.there in
        keeps (kept_in room host writer) (kept_landed room host writer issued w v bytes i)
        (subst (λ x. 40 * kept_in room host writer ≤ kept_at room (index_path x writer)) its_host kept.index)
        (omega (arith, kept_long room host writer issued w v bytes i, ap (λ f. length (bytes_of f)) at))
        (subst (λ x. logged (take (kept_in room host writer) (entries_in issued)) ≤ kept_at room (log_path x writer)) its_host kept.log)

    kept_first : take (kept_in room host writer) (entries_in (take lost.count issued)) ≡ take (kept_in room host writer) (entries_in issued)
    kept_first = ap (λ es. take (kept_in room host writer) es) (entries_first lost.count issued) ∙ take_less (kept_in room host writer) lost.count (entries_in issued) still_kept

    are_left : AreKept new host writer (take lost.count issued) (kept_in room host writer)
    are_left =
        let l = h.files (index_path host writer) bytes i.there in
        let b : LostBytes room new (log_path host writer) = lost_bytes room new (log_path host writer) h in
        let long = kept_long room host writer issued w v bytes i in
        let all : logged (take (kept_in room host writer) (entries_in issued)) ≤ length (log_bytes room host writer) = subst (λ x. logged (take (kept_in room host writer) (entries_in issued)) ≤ length (log_bytes room x writer)) (sym its_host) (log_has (kept_in room host writer)) in
        record {
          bytes = l.front;
          has = record { is_item = i.is_item; there = l.there };
          issued_were = omega (arith, still_kept, length-take-le lost.count issued (omega (arith, lost.within, w.within)));
          long = omega (arith, kept.index, long, l.long);
          index = omega (arith, kept.index, long, l.long, l.kept);
          log = omega (arith, ap logged kept_first, kept.log, all, b.long, b.kept);
        }

    entries_left : KeepsEntries room new host writer
    entries_left = kept_entries room new host writer issued (take lost.count issued) w v left_writer (writes_take lost.count writer issued v) bytes i kept_first are_left
        (λ last sum stamp inside m. let l = h.files (path_of (Meta last sum stamp host writer)) inside m.there in (l.front, record { is_item = m.is_item; there = l.there }))

  pub writer_lost : WriterLost room new writer issued
  unfolding left_writer
  writer_lost = record {
    was = w;
    count = lost.count;
    within = lost.within;
    of = left_writer;
    all = sym (length-take-le lost.count issued (omega (arith, lost.within, w.within)));
    entries = entries_left;
  }
