-- So many entries of a writer are kept with their bytes: each later loss of power leaves them.
use Rattle.std.proofs.Common.{◌≡◌, ◌≤◌, ◌*◌, inl, inr, ℕ, List, length, take, Option, Some, None, refl, ap, sym, ◌∙◌, subst, arith}
use Rattle.std.specs.Prelude.{MatchOption, slice_get}
use Rattle.std.proofs.lemmas.Bool.{cases_lt}
use Rattle.std.proofs.lemmas.List.{length-take-le}
use Rattle.container_layout.specs.declared.items.Item.TheVariants.{Index, Meta}
use Rattle.container_layout.specs.Paths.{path_of}
use Rattle.store_api.specs.declared.tree.Room.{Room}
use Rattle.store_api.specs.declared.tree.Tree.{Tree}
use Rattle.store_api.specs.Loss.{Loses}
use Rattle.store_laws.specs.Files.{file_at, kept_at}
use Rattle.index_entry.specs.Spelling.{spelling_all}
use Rattle.index_entry.proofs.Facts.{length-spelling_all}
use Rattle.plfs_types.specs.declared.entries.Entry.{Entry}
use Rattle.mount_model.specs.declared.row.Row.{Row}
use Rattle.mount_model.specs.History.{Event}
use Rattle.mount_model.specs.Paths.{index_path, log_path}
use Rattle.mount_model.specs.State.{State}
use Rattle.mount_losses.proofs.Facts.{has_index, kept_survive, least_safe_of, marked_kept}
use Rattle.mount_sound.specs.Dropping.{IsDropping, IsKeptWhole, IsWriter, bytes_of, log_bytes}
use Rattle.mount_sound.specs.Entries.{logged}
use Rattle.mount_sound.specs.Items.{HasItem, HasMeta}
use Rattle.mount_sound.specs.Keeping.{kept_in, safe_of}
use Rattle.mount_sound.specs.Kept.{IsKept}
use Rattle.mount_sound.specs.Ledger.{Written, entries_in}
use Rattle.mount_sound.specs.Owed.{IsLawful}
use Rattle.mount_sound.specs.There.{landed_entries, landed_in}
use Rattle.mount_sound.proofs.Facts.{kept_most, logged_take, writer_told}
use Rattle.reader_laws.specs.Moments.{Dropping, HadItem, IsNamed, IsSoundAt, Moment, landed, landed_by, moment_after}
use Rattle.reader_laws.proofs.Gathered.Facts.{follows, in_a_room, in_tree, landed_at, length-entries}
use Rattle.headline_laws.proofs.Landed.Between.{AtPlace}

-- its index dropping stands, and so many of its entries are kept
pub record EntriesKept (room : Room) (d : Dropping) (count : ℕ) : Type 0 where
  pub bytes : List ℕ
  pub item : HasItem room (Index d.host d.writer) bytes
  pub kept : count ≤ kept_in room d.host d.writer

pub record KeepsNow (m : Moment) (d : Dropping) (count : ℕ) : Type 0 where
  pub sound : IsSoundAt m
  pub room : Room
  pub there : slice_get sound.shape.tree.rooms d.room ≡ Some room
  pub are_kept : 1 ≤ count → EntriesKept room d count

-- each loss of power behind later calls leaves them
pub survives : (m : Moment) (events : List Event) (d : Dropping) (count : ℕ) → KeepsNow m d count → IsLawful m.state events → (after lost : Tree) → (moment_after m events).state.store.tree ≡ Some after → Loses after lost
    → (left : Room) → slice_get lost.rooms d.room ≡ Some left → count ≤ landed_in left d.host d.writer
survives m events d count k lawful after lost told loses left here = elim (cases_lt 0 count) as (λ _. count ≤ landed_in left d.host d.writer) [
  | inl some ↦
      let a : EntriesKept k.room d count = k.are_kept some in
      let last = sym (ap (λ (s : State). s.store.tree) (follows m events).0) ∙ told in
      omega (arith, a.kept, kept_survive m.issued m.state events lawful k.sound k.sound.shape.tree after lost k.sound.shape.told last loses d.room k.room left k.there here d.host d.writer a.bytes a.item)
  | inr none ↦ omega (arith, none)
]

-- ---- by the marks of the table

-- what it marks as synced is kept, where the log was synced as far as it was written
pub marks_keep : (m : Moment) (me : ℕ) (d : Dropping) (row : Row) → AtPlace m me d row → (count : ℕ) → count ≤ row.index_mark → row.log_mark ≡ row.stored → KeepsNow m d count
marks_keep m me d row at count marked synced =
    let s : IsSoundAt m = at.sound in
    let place = s.sound.placed d.writer row at.has.there in
    let writes : List Written = m.issued row.room d.writer in
    let k : IsKept place.0 row writes = (s.sound.rooms row.room place.0 place.1).kept d.writer row at.has.there refl in
    record {
      sound = s;
      room = place.0;
      there = ap (λ r. slice_get s.shape.tree.rooms r) (sym at.room) ∙ place.1;
      are_kept = λ some.
          let i = has_index m.issued m.state s d.writer row place.0 at.has.there place.1 (omega (arith, some, marked, k.numbers.index_mark)) in
          let all : logged (take row.index_mark (entries_in writes)) ≤ row.log_mark = omega (arith, logged_take row.index_mark (entries_in writes), k.numbers.stored, synced) in
          let safe : row.index_mark ≤ safe_of row writes = least_safe_of row writes (omega (arith, k.numbers.index_mark, k.numbers.landed)) all in
          let kept : safe_of row writes ≤ kept_in place.0 row.host d.writer = marked_kept m.issued m.state s d.writer row place.0 at.has.there place.1 in
          record {
            bytes = i.bytes;
            item = subst (λ h. HasItem place.0 (Index h d.writer) i.bytes) at.host i.item;
            kept = subst (λ h. count ≤ kept_in place.0 h d.writer) at.host (omega (arith, marked, safe, kept));
          };
    }

-- ---- by metadata

-- the index dropping of a writer of which something has landed
dropping_there : (writer : ℕ) (issued : List Written) (landed log : ℕ) (file : Option (List ℕ)) → MatchOption file (landed ≡ 0) (IsDropping writer issued landed log) → 1 ≤ landed → (bytes : List ℕ) × (file ≡ Some bytes)
dropping_there writer issued landed log None none some = absurd (omega (arith, none, some))
dropping_there writer issued landed log (Some bytes) is some = (bytes, refl)

-- of a writer that has metadata all is kept that has landed
pub metadata_keep : (m : Moment) → IsSoundAt m → (d : Dropping) → IsNamed d → (last sum stamp : ℕ) → HadItem m d.room (Meta last sum stamp d.host d.writer) → (count : ℕ) → count ≤ landed m d → KeepsNow m d count
metadata_keep m s d named last sum stamp had count few =
    let r = in_a_room (slice_get s.shape.tree.rooms d.room) (path_of (Meta last sum stamp d.host d.writer)) had.bytes (in_tree m s d.room (path_of (Meta last sum stamp d.host d.writer)) had.bytes had.there) in
    let issued : List Written = m.issued d.room d.writer in
    let es : List Entry = entries_in issued in
    let w : IsWriter r.0 d.writer issued = (s.sound.rooms d.room r.0 r.1).writers d.writer named.widths.1 in
    let meta : HasMeta r.0 d.host d.writer = record { last = last; bytes = sum; stamp = stamp; content = had.bytes; has = record { is_item = had.is_item; there = r.2 } } in
    let host : d.host ≡ w.host = w.one_host d.host (inr (inr meta)) in
    let landed_is : landed_by m d ≡ take w.landed es = landed_at m s d r.0 r.1 ∙ ap (λ h. landed_entries r.0 h d.writer) host ∙ writer_told r.0 d.writer issued w named.widths.1 (s.sound.writes d.room d.writer) in
    let long : length (take w.landed es) ≡ w.landed = length-take-le w.landed es (omega (arith, w.within, length-entries issued)) in
    let all : landed m d ≡ w.landed = ap length landed_is ∙ long in
    record {
      sound = s;
      room = r.0;
      there = r.1;
      are_kept = λ some.
          let whole : IsKeptWhole r.0 w.host d.writer (take w.landed es) = w.settled (subst (λ h. HasMeta r.0 h d.writer) host meta) in
          let i = dropping_there d.writer issued w.landed (length (log_bytes r.0 w.host d.writer)) (file_at r.0 (index_path w.host d.writer)) w.index (omega (arith, some, few, all)) in
          let item : HasItem r.0 (Index d.host d.writer) i.0 = record { is_item = named; there = ap (λ h. file_at r.0 (index_path h d.writer)) host ∙ i.1 } in
          let spelled : i.0 ≡ spelling_all (take w.landed es) = sym (ap bytes_of i.1) ∙ whole.index in
          let many : w.landed ≤ kept_in r.0 d.host d.writer = kept_most r.0 d.host d.writer issued w (s.sound.writes d.room d.writer) i.0 item w.landed w.within
          (omega (arith, ap length spelled, length-spelling_all (take w.landed es), long))
          (subst (λ h. 40 * w.landed ≤ kept_at r.0 (index_path h d.writer)) (sym host) (omega (arith, whole.index_kept, long)))
          (subst (λ h. logged (take w.landed es) ≤ kept_at r.0 (log_path h d.writer)) (sym host) whole.log_kept) in
          record { bytes = i.0; item = item; kept = omega (arith, few, all, many) };
    }
