-- A target with one more room, or one more mark, is one.
use Rattle.std.proofs.Common.{◌≡◌, ℕ, ◌≤◌, ◌<◌, ◌^◌, ◌⊎◌, List, [], ◌∷◌, get_or, Option, Some, refl, ap, sym, ◌∙◌, inl, inr, subst, arith}
use Rattle.std.specs.Prelude.{Err, slice_get}
use Rattle.container_layout.specs.declared.items.Item.{Item}
use Rattle.container_layout.specs.declared.items.Item.TheVariants.{Access, OpenHost, Meta, Trunc, Flat, TmpFlat, Index, Log, Packed, TmpPacked}
use Rattle.container_layout.specs.Paths.{path_of}
use Rattle.container_layout.proofs.Facts.{elsewhere}
use Rattle.store_api.specs.declared.store.Trouble.TheVariants.{Fault}
use Rattle.store_api.specs.declared.tree.Room.{Room}
use Rattle.store_api.specs.declared.tree.Tree.{Tree}
use Rattle.store_api.specs.Leaves.{MayLeave}
use Rattle.store_api.specs.Step.{create, make_room}
use Rattle.store_laws.specs.Changes.{Created, RoomMade, with_room}
use Rattle.store_laws.specs.Files.{AreTwo, file_at}
use Rattle.store_laws.specs.Prefix.{IsPrefix}
use Rattle.store_laws.specs.There.{IsFree}
use Rattle.store_laws.proofs.Facts.{create_told, each_room, each_with_added, make_room_told, path_cases}
use Rattle.mount_model.specs.Paths.{Name, mark_path, new_files, new_folders}
use Rattle.store_api.specs.Names.{marks_folder}
use Rattle.store_api.specs.Names.{marks_name}
use Rattle.mount_sound.specs.Container.{IsContainer}
use Rattle.mount_sound.specs.Marks.{IsMarksRoom, IsOfMark}
use Rattle.mount_sound.specs.Dropping.{bytes_of}
use Rattle.mount_sound.specs.Growing.{IsMore}
use Rattle.mount_sound.specs.Sound.{TruncatesDiffer}
use Rattle.mount_sound.proofs.Facts.{IsBare, IsWhole, KeepsAllEntries, had, hostdir_below, made_bare, no_item}
use Rattle.reader_laws.specs.Moments.{Moment}
use Rattle.drain_sound.specs.Fronts.{IsDrainedFrom, IsTarget, index_there, log_there, dropping_in}
use Rattle.drain_sound.specs.Steps.{IsNamedRoom}
use Rattle.drain_sound.proofs.RoomLemmas.{AddedSound, ChangedSound, added_sound, changed_sound, flats_changed, no_items, with_added}
use Rattle.drain_sound.proofs.ShapeLemmas.{container_made, marks_made, marks_more, no_marks, shape_added, shape_changed}
use Rattle.drain_sound.proofs.WriterLemmas.{StaysThere, entries_stay, whole_stays}
use Rattle.drain_sound.proofs.Writes.{more_none}

-- ---- marks and items

-- no item stands in the folder of marks
pub item_apart : (item : Item) (mount : ℕ) → AreTwo (path_of item) (mark_path mount)
item_apart Access mount folder file = elsewhere (ap (λ (l : Name). get_or l 0 0) folder) refl
item_apart (OpenHost host writer) mount folder file = elsewhere (ap (λ (l : Name). get_or l 0 0) folder) refl
item_apart (Meta last bytes stamp host writer) mount folder file = elsewhere (ap (λ (l : Name). get_or l 1 0) folder) refl
item_apart (Trunc stamp size) mount folder file = elsewhere (ap (λ (l : Name). get_or l 0 0) folder) refl
item_apart (Flat id) mount folder file = elsewhere (ap (λ (l : Name). get_or l 0 0) folder) refl
item_apart (TmpFlat id) mount folder file = elsewhere (ap (λ (l : Name). get_or l 0 0) folder) refl
item_apart (Index host writer) mount folder file = elsewhere (ap (λ (l : Name). get_or l 0 0) folder) refl
item_apart (Log host writer) mount folder file = elsewhere (ap (λ (l : Name). get_or l 0 0) folder) refl
item_apart (Packed host writer) mount folder file = elsewhere (ap (λ (l : Name). get_or l 0 0) folder) refl
item_apart (TmpPacked host id) mount folder file = elsewhere (ap (λ (l : Name). get_or l 0 0) folder) refl

-- ---- a room

-- a room without items came from drains
bare_drained : (source : Moment) (number : ℕ) (room : Room) → IsBare room → IsDrainedFrom source number room
bare_drained source number room bare = record {
  hosts = λ host writer h. absurd (no_items room host writer bare h);
  fronts = λ host writer is. record {
    index = subst (λ o. IsPrefix (bytes_of o) (index_there source (dropping_in number host writer))) (sym (bare.none (Index host writer) (hostdir_below host))) tt;
    log = subst (λ o. IsPrefix (bytes_of o) (log_there source (dropping_in number host writer))) (sym (bare.none (Log host writer) (hostdir_below host))) tt;
  };
  truncates = λ stamp size bytes h. absurd (no_item room (Trunc stamp size) bytes bare refl h);
}

module _ (source : Moment) (number : ℕ) (name : Name) (tree : Tree) (t : IsTarget source number name tree) where
  added_target : (new : Room) → IsBare new → IsFree tree new.name → IsMarksRoom new ⊎ IsContainer (IsOfMark (with_added tree new)) new → IsTarget source number name (with_added tree new)
  added_target new bare free is =
      let a : AddedSound tree t.sound new bare = added_sound tree t.sound new bare (shape_added tree new free is t.sound.shaped) in
      record {
        logical = t.logical;
        sound = a.sound;
        drained = λ m r there named. elim (each_with_added tree m new r there) as (λ _. IsDrainedFrom source number r) [
          | inl last ↦ subst (IsDrainedFrom source number) (sym last.1) (bare_drained source number new bare)
          | inr was ↦ t.drained m r was.1 named
        ];
        first = λ m r there named writer. elim (each_with_added tree m new r there) as (λ _. IsMore (a.sound.issued m writer) (source.issued number writer)) [
          | inl last ↦ subst (λ k. IsMore (a.sound.issued k writer) (source.issued number writer)) (sym last.0) (subst (λ ws. IsMore ws (source.issued number writer)) (sym (a.nobody_wrote writer)) (more_none (source.issued number writer)))
          | inr was ↦ subst (λ ws. IsMore ws (source.issued number writer)) (sym (a.same m writer)) (t.first m r was.1 named writer)
        ];
      }

  made_target : (made_name : Name) (folders files : List Name) (after : Tree) → ((m : RoomMade tree made_name folders files after) → IsMarksRoom m.new ⊎ IsContainer (IsOfMark (with_added tree m.new)) m.new) → MayLeave tree (make_room made_name folders files) after → IsTarget source number name after
  made_target made_name folders files after is l = elim (make_room_told made_name folders files tree (Err Fault) after l).either as (λ _. IsTarget source number name after) [
    | inr same ↦ subst (IsTarget source number name) (sym same) t
    | inl m ↦ subst (IsTarget source number name) (sym m.gives) (added_target m.new (made_bare tree made_name folders files after m) (λ k room there named. m.free k room there (named ∙ m.named)) (is m))
  ]

  -- the room of marks
  pub marks_target : (after : Tree) → MayLeave tree (make_room marks_name (marks_folder ∷ []) []) after → IsTarget source number name after
  marks_target after l = made_target marks_name (marks_folder ∷ []) [] after (λ m. inl (marks_made tree after m)) l

  -- the container
  pub container_target : (after : Tree) → MayLeave tree (make_room name new_folders new_files) after → IsTarget source number name after
  container_target after l = made_target name new_folders new_files after (λ m. inr (container_made (IsOfMark (with_added tree m.new)) tree name after m t.logical)) l

  -- ---- a mark

  module _ (after : Tree) (n mount : ℕ) (some : 1 ≤ mount) (fits : mount < 2 ^ 32) (c : Created tree n (mark_path mount) after) (named : c.room.name ≡ marks_name) where
    stays : (item : Item) → StaysThere c.room c.new item
    stays item = record { file = c.others.files (path_of item) (item_apart item mount); kept = omega (arith, c.others.kepts (path_of item) (item_apart item mount)) }

    holds : (writer : ℕ) → writer < 2 ^ 64 → IsWhole c.new writer (t.sound.issued n writer)
    holds writer small =
        let w = (t.sound.rooms n c.room c.has_room).writers writer small in
        whole_stays c.room c.new writer (λ item is o. stays item) (t.sound.issued n writer) small (t.sound.writes n writer) w (t.sound.all_landed n c.room c.has_room writer small)
        (λ stamp size inside h. w.beside stamp size inside (had c.room c.new (Trunc stamp size) inside (λ is. (stays (Trunc stamp size)).file) h))

    keeps : KeepsAllEntries c.room c.new
    keeps host writer inside h =
        let small = h.is_item.widths.1 in
        entries_stay c.room c.new writer (λ item is o. stays item) (t.sound.issued n writer) small (t.sound.writes n writer) ((t.sound.rooms n c.room c.has_room).writers writer small) (holds writer small).0 host inside h

    differ : TruncatesDiffer c.new
    differ stamp size other a b has_a has_b =
        (t.sound.rooms n c.room c.has_room).truncates stamp size other a b (had c.room c.new (Trunc stamp size) a (λ is. (stays (Trunc stamp size)).file) has_a) (had c.room c.new (Trunc stamp other) b (λ is. (stays (Trunc stamp other)).file) has_b)

    a_mark : (m : ℕ) → file_at c.room (mark_path m) ≡ Some [] → file_at c.new (mark_path m) ≡ Some []
    a_mark m there = elim (path_cases (mark_path m) (mark_path mount)) as (λ _. file_at c.new (mark_path m) ≡ Some []) [
      | inl same ↦ ap (λ p. file_at c.new p) same ∙ c.now
      | inr two ↦ c.others.files (mark_path m) two ∙ there
    ]

    no_container : IsContainer (IsOfMark (with_room tree n c.new)) c.room → ⊥
    no_container x = no_marks c.room.name c.room x.named refl named

    marks_yet : IsMarksRoom c.room ⊎ IsContainer (IsOfMark (with_room tree n c.new)) c.room → IsMarksRoom c.new ⊎ IsContainer (IsOfMark (with_room tree n c.new)) c.new
    marks_yet (inl m) = inl (marks_more mount c.room c.new some fits c.now c.others c.differ m)
    marks_yet (inr x) = absurd (no_container x)

    marked_sound : ChangedSound tree t.sound n c.room c.new c.has_room (λ q ws. Unit {0}) (λ q small. (t.sound.issued n q, holds q small, t.sound.writes n q, tt)) (λ q. tt)
    marked_sound = changed_sound tree t.sound n c.room c.new c.has_room (λ q ws. Unit {0}) (λ q small. (t.sound.issued n q, holds q small, t.sound.writes n q, tt)) (λ q. tt)
        (shape_changed tree n c.room c.new c.has_room c.others.name (λ marks. a_mark) t.sound.shaped (λ wider is. marks_yet is)) differ
        (flats_changed tree t.sound n c.room c.new c.has_room keeps (λ makes id is. stays _))

    no_name : (r : Room) → r ≡ c.new → r.name ≡ name → ⊥
    no_name r is of = no_marks name r t.logical of (ap (λ (x : Room). x.name) is ∙ c.others.name ∙ named)

    marked : IsTarget source number name (with_room tree n c.new)
    marked = record {
      logical = t.logical;
      sound = marked_sound.sound;
      drained = λ m r there of. elim (each_room tree n m c.room c.new r c.has_room there) as (λ _. IsDrainedFrom source number r) [
        | inl here ↦ absurd (no_name r here.1 of)
        | inr other ↦ t.drained m r other.1 of
      ];
      first = λ m r there of writer. elim (each_room tree n m c.room c.new r c.has_room there) as (λ _. IsMore (marked_sound.sound.issued m writer) (source.issued number writer)) [
        | inl here ↦ absurd (no_name r here.1 of)
        | inr other ↦ subst (λ ws. IsMore ws (source.issued number writer)) (sym (marked_sound.others m writer other.0)) (t.first m r other.1 of writer)
      ];
    }

  one_room : (a b : Room) (o : Option Room) → o ≡ Some a → o ≡ Some b → a ≡ b
  one_room a b o p q = cc

  pub marked_target : (after : Tree) (n mount : ℕ) (room : Room) → IsNamedRoom tree n marks_name room → 1 ≤ mount → mount < 2 ^ 32 → MayLeave tree (create n (mark_path mount).folder (mark_path mount).file) after → IsTarget source number name after
  marked_target after n mount room at some fits l = elim (create_told n (mark_path mount) tree (Err Fault) after l).either as (λ _. IsTarget source number name after) [
    | inr same ↦ subst (IsTarget source number name) (sym same) t
    | inl c ↦
        let same : c.room ≡ room = one_room c.room room (slice_get tree.rooms n) c.has_room at.there in
        subst (IsTarget source number name) (sym c.gives) (marked after n mount some fits c (ap (λ (r : Room). r.name) same ∙ at.named))
  ]
