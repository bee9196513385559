-- A target stays one for the next mount of a source that lost power, where what it has was kept there.
use Rattle.std.proofs.Common.{◌≡◌, ℕ, ◌*◌, ◌/◌, ◌≤◌, ◌<◌, ◌^◌, List, [], ◌∷◌, length, take, Option, Some, None, refl, ap, sym, ◌∙◌, inl, inr, subst, arith}
use Rattle.std.specs.Prelude.{MatchOption, slice_get}
use Rattle.std.proofs.lemmas.Bool.{cases_lt}
use Rattle.std.proofs.lemmas.List.{length-take-le, take-append-le}
use Rattle.plfs_types.specs.declared.entries.Entry.{Entry}
use Rattle.container_layout.specs.declared.items.Item.{Item}
use Rattle.container_layout.specs.declared.items.Item.TheVariants.{Index, Log, Trunc}
use Rattle.container_layout.specs.Items.{IsItem}
use Rattle.container_layout.specs.Paths.{path_of}
use Rattle.index_entry.specs.Spelling.{spelling_all}
use Rattle.index_entry.proofs.Facts.{length-spelling_all}
use Rattle.store_api.specs.declared.tree.Room.{Room}
use Rattle.store_api.specs.declared.tree.Tree.{Tree}
use Rattle.store_api.specs.Acts.{Stored}
use Rattle.store_api.specs.Loss.{Loses}
use Rattle.store_laws.specs.Files.{file_at}
use Rattle.store_laws.specs.Losing.{HasLost}
use Rattle.store_laws.specs.Prefix.{IsPrefix}
use Rattle.store_laws.proofs.Facts.{have_lost, prefix_trans}
use Rattle.mount_model.specs.Mounting.{IsMounted}
use Rattle.mount_model.specs.Paths.{Name, index_path, log_path}
use Rattle.mount_model.specs.State.{State}
use Rattle.mount_sound.specs.Dropping.{IsDropping, IsWriter, bytes_of, log_bytes}
use Rattle.mount_sound.specs.Entries.{logged}
use Rattle.mount_sound.specs.Growing.{IsMore}
use Rattle.mount_sound.specs.Items.{HasItem}
use Rattle.mount_sound.specs.Keeping.{kept_in}
use Rattle.mount_sound.specs.Ledger.{AreWritesOf, Written, content, entries_in}
use Rattle.mount_sound.specs.Sound.{IsSoundTree}
use Rattle.mount_sound.specs.There.{entries_there, landed_entries, landed_in}
use Rattle.mount_sound.proofs.Facts.{content_take, entries_take, front_of_front, is_index, landed_is, length-content, mounted_sound, writes_take}
use Rattle.mount_losses.specs.Losing.{LosesUnkept}
use Rattle.mount_losses.proofs.Facts.{lost_told}
use Rattle.reader_laws.specs.Moments.{Dropping, HadTrunc, IsSoundAt, Moment, Stood, file_in_room, file_then, file_told, index_then, issued_by, landed}
use Rattle.reader_laws.proofs.Gathered.Facts.{landed_at, landed_whole, length-entries}
use Rattle.drain_sound.specs.Fronts.{IsDrainedFrom, IsFrontOf, IsTarget, index_there, log_there, dropping_in}
use Rattle.drain_sound.specs.Kept.{IsKeptThere}
use Rattle.drain_sound.specs.Views.{mounted_there}
use Rattle.drain_sound.proofs.LastsLemmas.{index_more, less_more, log_more, nothing, take_whole, target_there}
use Rattle.drain_sound.proofs.MountLemmas.{none_landed, same_files}
use Rattle.drain_sound.proofs.ViewLemmas.{SameItems, mounted_items}
use Rattle.drain_sound.proofs.Writes.{more_none, more_take}

-- of two fronts of a list the shorter one is a front of the longer one
shorter_more : (a b c : List Written) → IsMore a c → IsMore b c → length a ≤ length b → IsMore a b
shorter_more a b c p q l =
    let is : take (length a) b ≡ a =
    sym (take-append-le (length a) b q.0 l) ∙ ap (λ ws. take (length a) ws) (sym q.1 ∙ p.1) ∙ take-append-le (length a) a p.0 (omega arith) ∙ take_whole a in
    subst (λ ws. IsMore ws b) is (more_take (length a) b)

-- the first of both are the same
same_take : (n : ℕ) (b c : List Written) → IsMore b c → n ≤ length b → take n c ≡ take n b
same_take n b c q l = ap (λ ws. take n ws) q.1 ∙ take-append-le n b q.0 l

no_bytes : (bytes whole there : List ℕ) → IsPrefix bytes whole → whole ≡ [] → IsPrefix bytes there
no_bytes [] whole there p e = tt
no_bytes (x ∷ bytes) [] there p e = absurd p
no_bytes (x ∷ bytes) (y ∷ whole) there p e = absurd (cc)

none_spelled : (n : ℕ) (es : List Entry) → n ≡ 0 → spelling_all (take n es) ≡ []
none_spelled n [] e = ap (λ k. spelling_all (take k [])) e
none_spelled n (x ∷ es) e = ap (λ k. spelling_all (take k (x ∷ es))) e

none_written : (n : ℕ) (ws : List Written) → n ≡ 0 → content (take n ws) ≡ []
none_written n [] e = ap (λ k. content (take k [])) e
none_written n (w ∷ ws) e = ap (λ k. content (take k (w ∷ ws))) e

module _ (source : Moment) (s : IsSoundAt source) (number : ℕ) (left lost : Tree) (there : Room) (told : source.state.store.tree ≡ Some left) (at : slice_get left.rooms number ≡ Some there) (loses : Loses left lost)
    (serial : ℕ) (times : Option (List ℕ)) (opened : Stored) (start : State) (m : IsMounted serial times opened start) (opens : opened.tree ≡ Some lost) where
  u : LosesUnkept source.issued left lost
  u = lost_told source.issued source.state s left lost told loses

  abbrev new : Moment
  new = mounted_there u.sound start

  r : IsSoundAt new
  r = mounted_sound serial times opened start lost m opens u.sound

  l : (room : Room) × (slice_get lost.rooms number ≡ Some room) × HasLost there room
  l = (have_lost left lost loses).rooms number there at

  i : SameItems r.shape.tree number l.0
  i = mounted_items serial times opened start lost r.shape.tree number l.0 m opens r.shape.told l.1

  file_new : (item : Item) → file_then new number (path_of item) ≡ file_at l.0 (path_of item)
  file_new item = ap (λ o. file_told o number (path_of item)) r.shape.told ∙ ap (λ o. file_in_room o (path_of item)) i.there ∙ i.files item

  file_old : (item : Item) → file_then source number (path_of item) ≡ file_at there (path_of item)
  file_old item = ap (λ o. file_told o number (path_of item)) told ∙ ap (λ o. file_in_room o (path_of item)) at

  stood_yet : (host writer : ℕ) → Stood source (dropping_in number host writer) → Stood new (dropping_in number host writer)
  stood_yet host writer a =
      let f = l.2.files (index_path host writer) a.bytes (sym (file_old (Index host writer)) ∙ a.there) in
      record { is_item = a.is_item; bytes = f.front; there = file_new (Index host writer) ∙ f.there }

  truncate_yet : (stamp size : ℕ) → HadTrunc source number stamp size → HadTrunc new number stamp size
  truncate_yet stamp size a =
      let f = l.2.files (path_of (Trunc stamp size)) a.bytes (sym (file_old (Trunc stamp size)) ∙ a.there) in
      record { is_item = a.is_item; bytes = f.front; there = file_new (Trunc stamp size) ∙ f.there }

  -- as many have landed as were kept
  kept_landed : (host writer : ℕ) → Stood source (dropping_in number host writer) → kept_in there host writer ≤ landed new (dropping_in number host writer)
  kept_landed host writer a =
      let item : HasItem there (Index host writer) a.bytes = record { is_item = a.is_item; there = sym (file_old (Index host writer)) ∙ a.there } in
      let same : landed_entries i.now host writer ≡ landed_entries l.0 host writer =
      ap (λ f. entries_there (bytes_of f) (bytes_of (file_at i.now (log_path host writer)))) (i.files (Index host writer))
      ∙ ap (λ f. entries_there (bytes_of (file_at l.0 (index_path host writer))) (bytes_of f)) (i.files (Log host writer)) in
      let count : landed new (dropping_in number host writer) ≡ landed_in l.0 host writer = ap length (landed_at new r (dropping_in number host writer) i.now i.there ∙ same) in
      omega (arith, count, u.kept number there l.0 at l.1 host writer a.bytes item)

  first : (writer : ℕ) → IsMore (new.issued number writer) (source.issued number writer)
  first writer = u.first number writer

  within : (host writer : ℕ) → Stood source (dropping_in number host writer) → kept_in there host writer ≤ length (new.issued number writer)
  within host writer a = omega (arith, kept_landed host writer a, landed_whole new r (dropping_in number host writer) a.is_item)

  module _ (room : Room) (d : IsDrainedFrom source number room) (k : IsKeptThere source number there room) where
    -- where the writer stood, its files are fronts of what is left
    left_front : (host writer : ℕ) → Stood source (dropping_in number host writer) → IsFrontOf new number room host writer
    left_front host writer a =
        let of : Dropping = dropping_in number host writer in
        let f = d.fronts host writer a.is_item in
        let n : ℕ = kept_in there host writer in
        let all : List Written = source.issued number writer in
        let now : List Written = new.issued number writer in
        let some : n ≤ length now = within host writer a in
        let same : take n all ≡ take n now = same_take n now all (first writer) some in
        let more : IsMore (take n now) (take (landed new of) now) = less_more n (landed new of) now (kept_landed host writer a) in
        let long : length (take n all) ≡ n = ap length same ∙ length-take-le n now some in
        let v : AreWritesOf writer (take n all) = writes_take n writer all (s.sound.writes number writer) in
        let index_kept : IsPrefix (bytes_of (file_at room (index_path host writer))) (spelling_all (entries_in (take n all))) =
        front_of_front (bytes_of (file_at room (index_path host writer))) (spelling_all (entries_in (take n all))) (spelling_all (entries_in all))
        (prefix_trans (bytes_of (file_at room (index_path host writer))) (index_there source of) (spelling_all (entries_in all)) f.index
        (subst (λ es. IsPrefix (spelling_all es) (spelling_all (entries_in all))) (entries_take (landed source of) all) (index_more (take (landed source of) all) all (more_take (landed source of) all))))
        (index_more (take n all) all (more_take n all))
        (omega (arith, k.index host writer a.is_item, length-spelling_all (entries_in (take n all)), length-entries (take n all), long)) in
        let log_kept : IsPrefix (log_bytes room host writer) (content (take n all)) =
        front_of_front (log_bytes room host writer) (content (take n all)) (content all)
        (prefix_trans (log_bytes room host writer) (log_there source of) (content all) f.log (content_take (landed source of) all))
        (content_take n all)
        (omega (arith, k.log host writer a.is_item, length-content (take n all) v.full, ap logged (entries_take n all))) in
        record {
          index = subst (IsPrefix (bytes_of (file_at room (index_path host writer)))) (ap spelling_all (entries_take (landed new of) now))
              (prefix_trans (bytes_of (file_at room (index_path host writer))) (spelling_all (entries_in (take n now))) (spelling_all (entries_in (take (landed new of) now)))
              (subst (λ ws. IsPrefix (bytes_of (file_at room (index_path host writer))) (spelling_all (entries_in ws))) same index_kept) (index_more (take n now) (take (landed new of) now) more));
          log = prefix_trans (log_bytes room host writer) (content (take n now)) (log_there new of) (subst (λ ws. IsPrefix (log_bytes room host writer) (content ws)) same log_kept) (log_more (take n now) (take (landed new of) now) more);
        }

    each_front : (host writer : ℕ) → IsItem (Index host writer) → (found : Option (List ℕ)) → index_then source (dropping_in number host writer) ≡ found → IsFrontOf new number room host writer
    each_front host writer is None e =
        let of : Dropping = dropping_in number host writer in
        let f = d.fronts host writer is in
        let none : landed source of ≡ 0 = none_landed source s of is e in
        record {
          index = no_bytes (bytes_of (file_at room (index_path host writer))) (index_there source of) (index_there new of) f.index (none_spelled (landed source of) (entries_in (issued_by source of)) none);
          log = no_bytes (log_bytes room host writer) (log_there source of) (log_there new of) f.log (none_written (landed source of) (issued_by source of) none);
        }
    each_front host writer is (Some bytes) e = left_front host writer (record { is_item = is; bytes = bytes; there = e })

    drained_yet : IsDrainedFrom new number room
    drained_yet = record {
      hosts = λ host writer x. stood_yet host writer (d.hosts host writer x);
      fronts = λ host writer is. each_front host writer is (index_then source (dropping_in number host writer)) refl;
      truncates = λ stamp size bytes x. truncate_yet stamp size (d.truncates stamp size bytes x);
    }

    whole_kept : (n k len : ℕ) → n ≤ len / 40 → len ≤ 40 * k → n ≤ k
    whole_kept n k len x y = omega arith

    first_yet : (writer : ℕ) (issued : List Written) → writer < 2 ^ 64 → (w : IsWriter room writer issued) → w.landed ≡ length issued → IsMore issued (source.issued number writer) → IsMore issued (new.issued number writer)
    first_yet writer issued fits w all more = by_file (file_at room (index_path w.host writer)) refl w.index
      where
        by_file : (found : Option (List ℕ)) → file_at room (index_path w.host writer) ≡ found → MatchOption found (w.landed ≡ 0) (IsDropping writer issued w.landed (length (log_bytes room w.host writer))) → IsMore issued (new.issued number writer)
        by_file None e none = subst (λ ws. IsMore ws (new.issued number writer)) (sym (nothing issued (omega (arith, all, none)))) (more_none (new.issued number writer))
        by_file (Some bytes) e dropping =
            let item : HasItem room (Index w.host writer) bytes = record { is_item = is_index w.host writer w.host_fits fits; there = e } in
            let a : Stood source (dropping_in number w.host writer) = d.hosts w.host writer (inl (bytes, item)) in
            let count : w.landed ≤ kept_in there w.host writer = whole_kept w.landed (kept_in there w.host writer) (length bytes) (omega (arith, landed_is room w.host writer issued bytes w item)) (omega (arith, k.index w.host writer item.is_item, ap (λ o. length (bytes_of o)) e)) in
            shorter_more issued (new.issued number writer) (source.issued number writer) more (first writer) (omega (arith, all, count, within w.host writer a))

  lost_mount : (name : Name) (tree : Tree) → ((n : ℕ) (room : Room) → slice_get tree.rooms n ≡ Some room → room.name ≡ name → IsKeptThere source number there room) → IsTarget source number name tree → IsTarget new number name tree
  lost_mount name tree kept t = record {
    logical = t.logical;
    sound = t.sound;
    drained = λ n room here named. drained_yet room (t.drained n room here named) (kept n room here named);
    first = λ n room here named writer. elim (cases_lt writer (2 ^ 64)) as (λ _. IsMore (t.sound.issued n writer) (new.issued number writer)) [
      | inl fits ↦ first_yet room (t.drained n room here named) (kept n room here named) writer (t.sound.issued n writer) fits ((t.sound.rooms n room here).writers writer fits) (t.sound.all_landed n room here writer fits) (t.first n room here named writer)
      | inr past ↦ subst (λ ws. IsMore ws (new.issued number writer)) (sym (t.sound.fitting n writer past)) (more_none (new.issued number writer))
    ];
  }

  -- whatever account the next mount begins with
  pub next_mount_after_loss : (name : Name) (tree : Tree) → (sound : IsSoundTree lost) → ((n : ℕ) (room : Room) → slice_get tree.rooms n ≡ Some room → room.name ≡ name → IsKeptThere source number there room) → IsTarget source number name tree → IsTarget (mounted_there sound start) number name tree
  next_mount_after_loss name tree sound kept t =
      target_there new (mounted_there sound start) r number (same_files new (mounted_there sound start) r (mounted_sound serial times opened start lost m opens sound) number (λ item. refl)) name tree (lost_mount name tree kept t)
