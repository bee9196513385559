-- The container of a target goes on as one, where its room has changed.
use Rattle.std.proofs.Common.{◌≡◌, ℕ, ◌≤◌, ◌<◌, ◌^◌, ◌⊎◌, List, [], length, min, Some, sym, inl, inr, subst}
use Rattle.plfs_types.specs.declared.names.Path.{Path}
use Rattle.container_layout.specs.declared.items.Item.TheVariants.{Trunc, Index}
use Rattle.container_layout.specs.Paths.{path_of}
use Rattle.store_api.specs.declared.tree.Room.{Room}
use Rattle.store_api.specs.declared.tree.Tree.{Tree}
use Rattle.store_laws.specs.Changes.{with_room}
use Rattle.store_laws.specs.Files.{file_at, kept_at}
use Rattle.store_laws.specs.Prefix.{IsPrefix}
use Rattle.store_laws.proofs.Facts.{each_room}
use Rattle.mount_model.specs.Paths.{Name, index_path, log_path, open_path}
use Rattle.mount_sound.specs.Container.{IsContainer}
use Rattle.mount_sound.specs.Marks.{IsOfMark}
use Rattle.mount_sound.specs.Shape.{IsShapedTree}
use Rattle.mount_sound.specs.Dropping.{bytes_of}
use Rattle.mount_sound.specs.Growing.{IsMore}
use Rattle.mount_sound.specs.Items.{HasItem, HasMeta}
use Rattle.mount_sound.specs.Ledger.{AreWritesOf, Written}
use Rattle.mount_sound.specs.Sound.{TruncatesDiffer}
use Rattle.mount_sound.proofs.Facts.{IsWhole, KeepsAllEntries, KeepsEntries, had, had_item_of}
use Rattle.reader_laws.specs.Moments.{IsSoundAt, Moment, Stood}
use Rattle.drain_sound.specs.Fronts.{IsDrainedFrom, IsTarget, index_there, log_there, dropping_in}
use Rattle.drain_sound.specs.Steps.{IsNamedRoom}
use Rattle.drain_sound.proofs.RoomLemmas.{ChangedSound, InstalledStay, changed_sound, flats_changed}
use Rattle.drain_sound.proofs.ShapeLemmas.{container_of, no_marks, shape_changed}
use Rattle.drain_sound.proofs.WriterLemmas.{CopiedWhole, FrontsStay, WriterStays, beside_first, copied_keeps, copied_whole, entries_stay, truncates_there, whole_stays}
use Rattle.drain_sound.proofs.Writes.{more_none}

-- ---- one room has become another

-- of a writer that is copied, what the room holds before and after
pub record GoesOn (source : Moment) (number : ℕ) (room new : Room) (writer : ℕ) : Type 0 where
  pub host : ℕ
  pub stood : Stood source (dropping_in number host writer)
  pub opened : file_at new (open_path host writer) ≡ Some []
  pub was_unsettled : HasMeta room host writer → ⊥
  pub unsettled : HasMeta new host writer → ⊥
  pub index : FrontsStay room new (index_path host writer)
  pub log : FrontsStay room new (log_path host writer)

-- it is a container where the room was one, with the ids of marks that there are then
abbrev pub IsContainerYet : Tree → ℕ → Room → Room → Type 0
IsContainerYet tree n room new =
    ((id : ℕ) → IsOfMark tree id → IsOfMark (with_room tree n new) id) → IsContainer (IsOfMark (with_room tree n new)) room → IsContainer (IsOfMark (with_room tree n new)) new

-- The room came from drains, and each writer's files stay, or are copied.
pub record RoomGoesOn (source : Moment) (number : ℕ) (tree : Tree) (n : ℕ) (room new : Room) : Type 0 where
  pub named : new.name ≡ room.name
  pub drained : IsDrainedFrom source number new
  pub each : (writer : ℕ) → writer < 2 ^ 64 → WriterStays writer room new ⊎ GoesOn source number room new writer
  pub installed : InstalledStay room new
  pub container : IsContainerYet tree n room new

module _ (source : Moment) (s : IsSoundAt source) (number : ℕ) (name : Name) (tree : Tree) (t : IsTarget source number name tree) (n : ℕ) (room new : Room) (at : IsNamedRoom tree n name room) (g : RoomGoesOn source number tree n room new) where
  was : (writer : ℕ) → writer < 2 ^ 64 → IsWhole room writer (t.sound.issued n writer)
  was writer fits = ((t.sound.rooms n room at.there).writers writer fits, t.sound.all_landed n room at.there writer fits)

  old : IsDrainedFrom source number room
  old = t.drained n room at.there at.named

  more : (writer : ℕ) → IsMore (t.sound.issued n writer) (source.issued number writer)
  more writer = t.first n room at.there at.named writer

  -- a writer whose files stay
  stays_whole : (writer : ℕ) → writer < 2 ^ 64 → WriterStays writer room new → IsWhole new writer (t.sound.issued n writer)
  stays_whole writer fits stays =
      let w = was writer fits in
      whole_stays room new writer stays (t.sound.issued n writer) fits (t.sound.writes n writer) w.0 w.1
      (λ stamp size inside h. beside_first source s number room writer (t.sound.issued n writer) fits old w.0 w.1 (more writer) stamp size (g.drained.truncates stamp size inside h))

  goes_whole : (writer : ℕ) (x : GoesOn source number room new writer) → CopiedWhole source s number new x.host writer
  goes_whole writer x = copied_whole source s number new x.host writer g.drained x.stood x.opened x.unsettled

  -- what the room holds of a writer, and keeps of it
  record Held (writer : ℕ) : Type 0 where
    issued : List Written
    whole : IsWhole new writer issued
    writes : AreWritesOf writer issued
    first : IsMore issued (source.issued number writer)
    keeps : (host : ℕ) (inside : List ℕ) → HasItem room (Index host writer) inside → KeepsEntries room new host writer

  held : (writer : ℕ) → writer < 2 ^ 64 → Held writer
  held writer fits = elim (g.each writer fits) as (λ _. Held writer) [
    | inl stays ↦ record {
      issued = t.sound.issued n writer;
      whole = stays_whole writer fits stays;
      writes = t.sound.writes n writer;
      first = more writer;
      keeps = λ host inside h. entries_stay room new writer stays (t.sound.issued n writer) fits (t.sound.writes n writer) (was writer fits).0 (stays_whole writer fits stays).0 host inside h;
    }
    | inr x ↦
        let c = goes_whole writer x in
        record {
          issued = c.issued;
          whole = c.whole;
          writes = c.writes;
          first = c.first;
          keeps = copied_keeps source s number room new x.host writer (t.sound.issued n writer) (t.sound.writes n writer) (was writer fits).0 (more writer) old x.stood x.index x.log
              (λ last bytes stamp inside m. absurd (x.was_unsettled (record { last = last; bytes = bytes; stamp = stamp; content = inside; has = m }))) c;
        }
  ]

  all_kept : KeepsAllEntries room new
  all_kept host writer inside h = (held writer h.is_item.widths.1).keeps host inside h

  differ : TruncatesDiffer new
  differ stamp size other a b has_a has_b = truncates_there source s number stamp size other (g.drained.truncates stamp size a has_a) (g.drained.truncates stamp other b has_b)

  shaped : IsShapedTree (IsOfMark (with_room tree n new)) (with_room tree n new)
  shaped =
      shape_changed tree n room new at.there g.named (λ marks. absurd (no_marks name room t.logical at.named marks)) t.sound.shaped
      (λ wider is. inr (g.container wider (container_of (IsOfMark (with_room tree n new)) name room t.logical at.named is)))

  sound : ChangedSound tree t.sound n room new at.there (λ q ws. IsMore ws (source.issued number q)) (λ q fits. let h = held q fits in (h.issued, h.whole, h.writes, h.first)) (λ q. more_none (source.issued number q))
  sound = changed_sound tree t.sound n room new at.there (λ q ws. IsMore ws (source.issued number q)) (λ q fits. let h = held q fits in (h.issued, h.whole, h.writes, h.first)) (λ q. more_none (source.issued number q))
      shaped differ (flats_changed tree t.sound n room new at.there all_kept g.installed)

  -- The tree with it is a target.
  pub room_target : IsTarget source number name (with_room tree n new)
  room_target = record {
    logical = t.logical;
    sound = sound.sound;
    drained = λ m r there named. elim (each_room tree n m room new r at.there there) as (λ _. IsDrainedFrom source number r) [
      | inl here ↦ subst (IsDrainedFrom source number) (sym here.1) g.drained
      | inr other ↦ t.drained m r other.1 named
    ];
    first = λ m r there named writer. elim (each_room tree n m room new r at.there there) as (λ _. IsMore (sound.sound.issued m writer) (source.issued number writer)) [
      | inl here ↦ subst (λ k. IsMore (sound.sound.issued k writer) (source.issued number writer)) (sym here.0) (sound.at writer)
      | inr other ↦ subst (λ ws. IsMore ws (source.issued number writer)) (sym (sound.others m writer other.0)) (t.first m r other.1 named writer)
    ];
  }

-- ---- where no file has changed

module _ (source : Moment) (number : ℕ) (tree : Tree) (n : ℕ) (room new : Room) (named : new.name ≡ room.name) (files : (path : Path) → file_at new path ≡ file_at room path) (kepts : (path : Path) → min (kept_at room path) (length (bytes_of (file_at room path))) ≤ kept_at new path)
    (container : IsContainerYet tree n room new) where
  same_drained : IsDrainedFrom source number room → IsDrainedFrom source number new
  same_drained d = record {
    hosts = λ host writer h. d.hosts host writer (had_item_of room new host writer (λ item is o a. files (path_of item)) h);
    fronts = λ host writer is.
        let f = d.fronts host writer is in
        record {
          index = subst (λ o. IsPrefix (bytes_of o) (index_there source (dropping_in number host writer))) (sym (files (index_path host writer))) f.index;
          log = subst (λ o. IsPrefix (bytes_of o) (log_there source (dropping_in number host writer))) (sym (files (log_path host writer))) f.log;
        };
    truncates = λ stamp size inside h. d.truncates stamp size inside (had room new (Trunc stamp size) inside (λ is. files (path_of (Trunc stamp size))) h);
  }

  pub same_goes_on : IsDrainedFrom source number room → RoomGoesOn source number tree n room new
  same_goes_on d = record {
    named = named;
    drained = same_drained d;
    each = λ writer fits. inl (λ item is o. record { file = files (path_of item); kept = kepts (path_of item) });
    installed = λ makes id is. record { file = files _; kept = kepts _ };
    container = container;
  }
