-- A tree keeps its shape where power was lost.
use Rattle.std.proofs.Common.{◌≡◌, ℕ, [], Some, refl, ap, sym, ◌∙◌, ◌⊎◌, inl, inr, subst}
use Rattle.plfs_types.specs.Names.{IsLogicalName}
use Rattle.plfs_types.specs.declared.names.Path.{Path}
use Rattle.store_api.specs.declared.tree.Room.{Room}
use Rattle.store_api.specs.declared.tree.Tree.{Tree}
use Rattle.store_api.specs.Room.{has_folder}
use Rattle.store_laws.specs.Files.{file_at}
use Rattle.store_laws.specs.Differ.{is_listed, NamesDiffer, RoomsDiffer}
use Rattle.store_laws.specs.Losing.{HasLost, HaveLost}
use Rattle.store_laws.proofs.Facts.{file_back, room_back, has_folder_same}
use Rattle.mount_model.specs.Paths.{Name, metadata, truncs, flats, access_path}
use Rattle.store_api.specs.Names.{marks_folder}
use Rattle.mount_sound.specs.Marks.{IsMarksRoom, HasMark, IsOfMark}
use Rattle.mount_sound.specs.Container.{IsContainer}
use Rattle.mount_sound.specs.Shape.{IsShapedTree}
use Rattle.mount_sound.proofs.Shapes.Items.{empty_front, may_lose}
use Rattle.mount_sound.proofs.Shapes.Containers.{ids_wider}
use Rattle.mount_sound.proofs.Shapes.Trees.{of_mark_kept}

still_empty : (room new : Room) (path : Path) → HasLost room new → file_at room path ≡ Some [] → file_at new path ≡ Some []
still_empty room new path h e = let l = h.files path [] e in l.there ∙ ap (λ f. Some f) (empty_front l.front [] l.begins refl)

folder_same : (room new : Room) (folder : Name) → HasLost room new → has_folder new folder ≡ has_folder room folder
folder_same room new folder h = has_folder_same room new folder h.folders

pub lost_container : (few many : ℕ → Type 0) (room new : Room) → ((id : ℕ) → few id → many id) → HasLost room new → IsContainer few room → IsContainer many new
lost_container few many room new more h c = record {
  named = subst IsLogicalName (sym h.name) c.named;
  folders_differ = subst NamesDiffer (sym h.folders) c.folders_differ;
  paths_differ = h.differ c.paths_differ;
  has_metadata = folder_same room new metadata h ∙ c.has_metadata;
  has_truncs = folder_same room new truncs h ∙ c.has_truncs;
  has_flats = folder_same room new flats h ∙ c.has_flats;
  has_access = still_empty room new access_path h c.has_access;
  folders = λ folder there. c.folders folder (sym (folder_same room new folder h) ∙ there);
  top_unlisted = ap (λ folders. is_listed [] folders) h.folders ∙ c.top_unlisted;
  files = λ path front there.
      let was = file_back room new path front h there in
      let f = c.files path was.0 was.1 in
      record { item = f.item; is_at = f.is_at; holds = may_lose f.item front was.0 was.2 f.holds; id = ids_wider few many f.item more f.id; housed = folder_same room new path.folder h ∙ f.housed };
}

lost_marks : (room new : Room) → HasLost room new → IsMarksRoom room → IsMarksRoom new
lost_marks room new h m = record {
  named = h.name ∙ m.named;
  folders_differ = subst NamesDiffer (sym h.folders) m.folders_differ;
  paths_differ = h.differ m.paths_differ;
  has_marks = has_folder_same room new marks_folder h.folders ∙ m.has_marks;
  folders = λ folder there. m.folders folder (sym (folder_same room new folder h) ∙ there);
  top_unlisted = ap (λ folders. is_listed [] folders) h.folders ∙ m.top_unlisted;
  files = λ path front there.
      let was = file_back room new path front h there in
      let f = m.files path was.0 was.1 in
      (f.0, f.1, f.2, f.3, empty_front front was.0 was.2 f.4);
}

mark_stays : (tree new : Tree) → HaveLost tree new → (mount : ℕ) → HasMark tree mount → HasMark new mount
mark_stays tree new h mount m =
    let l = h.rooms m.number m.room m.there in
    record { number = m.number; room = l.0; there = l.1; named = l.2.name ∙ m.named; mark = still_empty m.room l.0 _ l.2 m.mark }

differ_still : (tree new : Tree) → HaveLost tree new → RoomsDiffer tree → RoomsDiffer new
differ_still tree new h d m n a b at_m at_n same =
    let x = room_back tree new m a h at_m in
    let y = room_back tree new n b h at_n in
    d m n x.0 y.0 x.1 y.1 (sym x.2.name ∙ same ∙ y.2.name)

-- what a loss leaves of a shaped tree has its shape
pub lost_shaped : (tree new : Tree) → HaveLost tree new → IsShapedTree (IsOfMark tree) tree → IsShapedTree (IsOfMark new) new
lost_shaped tree new h s = record {
  rooms_differ = differ_still tree new h s.rooms_differ;
  rooms = λ n room there.
      let was = room_back tree new n room h there in
      elim (s.rooms n was.0 was.1) as (λ _. IsMarksRoom room ⊎ IsContainer (IsOfMark new) room) [
        | inl m ↦ inl (lost_marks was.0 room was.2 m)
        | inr c ↦ inr (lost_container (IsOfMark tree) (IsOfMark new) was.0 room (of_mark_kept tree new (mark_stays tree new h)) was.2 c)
      ];
}
