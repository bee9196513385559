-- A tree of which all bytes are kept is shown by listings where the tree that the store tells is.
use Rattle.std.proofs.Common.{◌≡◌, ℕ, Bool, ◌||◌, List, [], ◌∷◌, map, Some, None, Result, Ok, Err, refl, ap, sym, ◌∙◌, subst}
use Rattle.std.specs.Prelude.{slice_get, IfErr, OnOk}
use Rattle.plfs_types.specs.Counts.{HasRisen}
use Rattle.plfs_types.specs.declared.names.Path.{Path}
use Rattle.store_api.specs.declared.tree.File.{File}
use Rattle.store_api.specs.declared.tree.Room.{Room}
use Rattle.store_api.specs.declared.tree.Tree.{Tree}
use Rattle.store_api.specs.Acts.{Stored}
use Rattle.store_api.specs.AllKept.{all_kept, room_kept}
use Rattle.store_api.specs.Kept.{synced}
use Rattle.store_api.specs.Room.{is_at}
use Rattle.store_api.specs.Step.{Name}
use Rattle.store_laws.specs.Files.{file_at}
use Rattle.store_laws.specs.Differ.{is_listed, is_there, FilesDiffer, RoomsDiffer}
use Rattle.store_laws.specs.Orderly.{IsOrderlyRoom}
use Rattle.mount_model.specs.Paths.{index_path}
use Rattle.mount_sound.specs.Sound.{IsSoundTree}
use Rattle.tree_laws.specs.Checked.{HoldsBytes, IsCheckedTree}
use Rattle.tree_laws.specs.Listable.{IsListable}
use Rattle.shape_check.specs.declared.finding.Finding.{Finding}
use Rattle.shape_check.specs.declared.finding.Finding.TheVariants.{Fault}
use Rattle.shape_check.specs.Rightness.{Fails, IsRight}
use Rattle.shape_check.specs.Seeing.{IsSeen}
use Rattle.shape_check.proofs.Facts.{file_kept_so, told_room}
use Rattle.tree_check.specs.Rooms.{OfTree}

still_there : (folder name : Name) (files : List File) → is_there folder name (map synced files) ≡ is_there folder name files
still_there folder name [] = refl
still_there folder name (f ∷ fs) = ap (λ (b : Bool). is_at folder name f || b) (still_there folder name fs)

files_differ : (files : List File) → FilesDiffer files → FilesDiffer (map synced files)
files_differ [] d = tt
files_differ (f ∷ fs) d = (still_there f.path.folder f.path.file fs ∙ d.0, files_differ fs d.1)

room_orderly : (room : Room) → IsOrderlyRoom room → IsOrderlyRoom (room_kept room)
room_orderly room o = record {
  folders = o.folders;
  paths = files_differ room.files o.paths;
  housed = λ path bytes at. o.housed path bytes (sym (file_kept_so room path) ∙ at);
}

module _ (tree : Tree) where
  -- the room that the store tells
  abbrev Before : ℕ → Room → Type 0
  Before n room = (before : Room) × (slice_get tree.rooms n ≡ Some before) × (room ≡ room_kept before)

  before_of : (n : ℕ) (room : Room) → slice_get (all_kept tree).rooms n ≡ Some room → Before n room
  before_of n room there = told_room tree (all_kept tree) n room refl there

  rooms_differ : RoomsDiffer tree → RoomsDiffer (all_kept tree)
  rooms_differ d m n a b there_a there_b same =
      let p = before_of m a there_a in
      let q = before_of n b there_b in
      d m n p.0 q.0 p.1 q.1 (ap (λ (r : Room). r.name) (sym p.2) ∙ same ∙ ap (λ (r : Room). r.name) q.2)

  pub listable_kept : IsListable tree → IsListable (all_kept tree)
  listable_kept l = record {
    orderly = record {
      rooms_differ = rooms_differ l.orderly.rooms_differ;
      rooms = λ n room there. (let p = before_of n room there in subst IsOrderlyRoom (sym p.2) (room_orderly p.0 (l.orderly.rooms n p.0 p.1)));
    };
    tops_unlisted = λ n room there. (let p = before_of n room there in ap (λ (r : Room). is_listed [] r.folders) p.2 ∙ l.tops_unlisted n p.0 p.1);
    apart = λ n room name there listed. (
        let p = before_of n room there in
        let top : Path = record { folder = []; file = name } in
        subst (λ (r : Room). file_at r top ≡ None) (sym p.2) (file_kept_so p.0 top ∙ l.apart n p.0 name p.1 (ap (λ (r : Room). is_listed name r.folders) (sym p.2) ∙ listed)));
  }

  pub bytes_kept : HoldsBytes tree → HoldsBytes (all_kept tree)
  bytes_kept holds n room there host writer bytes at =
      let p = before_of n room there in
      holds n p.0 p.1 host writer bytes (sym (file_kept_so p.0 (index_path host writer)) ∙ ap (λ (r : Room). file_at r (index_path host writer)) (sym p.2) ∙ at)

  pub seen_kept : (stored : Stored) → stored.tree ≡ Some tree → IsSeen stored (all_kept tree)
  seen_kept stored told = record { told = tree; tells = told; kept = refl }

pub found_sound : (old : Stored) (result : Result Unit Finding) → ((tree : Tree) → HoldsBytes tree → IsCheckedTree tree → IsSoundTree tree) → OnOk result (OfTree old)
    → (tree : Tree) → old.tree ≡ Some tree → IsListable tree → HoldsBytes tree → OnOk result (IsSoundTree (all_kept tree))
found_sound old (Err finding) law checked tree told listable bytes = tt
found_sound old (Ok done) law checked tree told listable bytes = law (all_kept tree) (bytes_kept tree bytes) (checked (all_kept tree) (seen_kept tree old told) (listable_kept tree listable))

pub found_right : (old new : Stored) (result : Result Unit Finding) → IfErr result (Fails IsListable old new) → (tree : Tree) → old.tree ≡ Some tree → IsListable tree → IfErr result (IsRight (all_kept tree))
found_right old new (Ok done) f tree told listable = tt
found_right old new (Err finding) f tree told listable = f.right (all_kept tree) (seen_kept tree old told) (listable_kept tree listable)

pub found_fault : (old new : Stored) (result : Result Unit Finding) → IfErr result (Fails IsListable old new) → IfErr result (λ finding. finding ≡ Fault → HasRisen old.faults new.faults)
found_fault old new (Ok done) f = tt
found_fault old new (Err finding) f = f.cause
