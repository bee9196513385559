-- An orderly tree stays orderly, whatever an act tells.
use Rattle.std.proofs.Common.{◌≡◌, ℕ, true, ◌||◌, List, [], ◌∷◌, ◌++◌, take, slice_get, Some, None, ap, sym, ◌∙◌, inl, inr, subst}
use Rattle.std.specs.Prelude.{Result}
use Rattle.plfs_types.specs.declared.names.Path.{Path}
use Rattle.store_api.specs.declared.tree.Room.{Room}
use Rattle.store_api.specs.declared.tree.Tree.{Tree}
use Rattle.store_api.specs.declared.step.Answer.{Answer}
use Rattle.store_api.specs.declared.store.Trouble.{Trouble}
use Rattle.store_api.specs.Step.{Step, Name, rooms as all_rooms, find_room, make_room, rename_room, make_folder, remove_folder, list_folder, create, remove, replace, length_of, read_at, write_at, cut, sync}
use Rattle.store_api.specs.Room.{has_folder}
use Rattle.store_laws.specs.Files.{file_at}
use Rattle.store_laws.specs.Differ.{is_listed, NamesDiffer, FilesDiffer}
use Rattle.store_laws.specs.Tells.{Tells}
use Rattle.store_laws.specs.Changes.{with_room, FileChanged, Moved, beside, FolderMade, FolderRemoved, RoomMade, RoomRenamed}
use Rattle.store_laws.specs.Orderly.{IsOrderlyRoom, IsOrderly, MakesOrderly}
use Rattle.store_laws.proofs.Names.Naming.{name_cases, path_cases}
use Rattle.store_laws.proofs.Steps.Rooms.{file_at_same, has_folder_same}
use Rattle.store_laws.proofs.Trees.Telling.{create_told, remove_told, replace_told, write_told, cut_told, sync_told, make_folder_told, remove_folder_told, make_room_told, rename_room_told}
use Rattle.store_laws.proofs.Looks.Answering.{look_told}
use Rattle.store_laws.proofs.Trees.Keeping.{each_room, each_with_added, rooms_differ_kept, rooms_differ_renamed, rooms_differ_added, folder_kept, folders_differ_kept, each_file, created_one, wrote_one, cut_one, synced_one, removed_one, file_kept, paths_differ_kept, each_new_file, has_new_folder, new_folders_differ}

pub orderly_same : (tree after : Tree) → after ≡ tree → IsOrderly tree → IsOrderly after
orderly_same tree after same o = subst IsOrderly (sym same) o

-- a room that keeps its name has changed, and is orderly
pub orderly_with : (tree : Tree) (n : ℕ) (room new : Room) (after : Tree) → slice_get tree.rooms n ≡ Some room → after ≡ with_room tree n new → new.name ≡ room.name → IsOrderlyRoom new → IsOrderly tree → IsOrderly after
orderly_with tree n room new after there gives named orderly o = orderly_same (with_room tree n new) after gives record {
  rooms_differ = rooms_differ_kept tree n room new there named o.rooms_differ;
  rooms = λ m r e. elim (each_room tree n m room new r there e) as (λ _. IsOrderlyRoom r) [
    | inl here ↦ subst IsOrderlyRoom (sym here.1) orderly
    | inr other ↦ o.rooms m r other.1
  ];
}

file_changed : (tree : Tree) (n : ℕ) (path : Path) (after : Tree) → FileChanged tree n path after → IsOrderly tree → IsOrderly after
file_changed tree n path after c o =
    let was = o.rooms n c.room c.has_room in
    orderly_with tree n c.room c.new after c.has_room c.gives c.others.name record {
      folders = folders_differ_kept path c.room c.new c.others was.folders;
      paths = c.differ was.paths;
      housed = λ other bytes at. folder_kept path c.room c.new other.folder c.others ∙ elim (each_file path other c.room c.new bytes c.others at) as (λ _. has_folder c.room other.folder ≡ true) [
        | inl here ↦ ap (λ (p : Path). has_folder c.room p.folder) here ∙ c.folder
        | inr there ↦ was.housed other bytes there.1
      ];
    } o

moved : (tree : Tree) (n : ℕ) (path : Path) (to : Name) (after : Tree) → Moved tree n path to after → IsOrderly tree → IsOrderly after
moved tree n path to after c o =
    let was = o.rooms n c.room c.has_room in
    orderly_with tree n c.room c.new after c.has_room c.gives c.same_name record {
      folders = subst (λ folders. NamesDiffer folders) (sym c.same_folders) was.folders;
      paths = c.differ was.paths;
      housed = λ other bytes at. has_folder_same c.room c.new other.folder c.same_folders ∙ elim (path_cases other path) as (λ _. has_folder c.room other.folder ≡ true) [
        | inl here ↦ ap (λ (p : Path). has_folder c.room p.folder) here ∙ c.folder
        | inr two ↦ elim (path_cases other (beside path to)) as (λ _. has_folder c.room other.folder ≡ true) [
          | inl there ↦ ap (λ (p : Path). has_folder c.room p.folder) there ∙ c.folder
          | inr apart ↦ was.housed other bytes (sym (c.others other two apart) ∙ at)
        ]
      ];
    } o

folder_made : (tree : Tree) (n : ℕ) (folder : Name) (after : Tree) → FolderMade tree n folder after → IsOrderly tree → IsOrderly after
folder_made tree n folder after c o =
    let was = o.rooms n c.room c.has_room in
    orderly_with tree n c.room c.new after c.has_room c.gives c.others.name record {
      folders = c.differ was.folders;
      paths = paths_differ_kept folder c.room c.new c.others was.paths;
      housed = λ path bytes at. elim (name_cases path.folder folder) as (λ _. has_folder c.new path.folder ≡ true) [
        | inl here ↦ ap (λ f. has_folder c.new f) here ∙ c.now
        | inr apart ↦ c.others.folders path.folder apart ∙ was.housed path bytes (sym (file_kept folder c.room c.new path c.others) ∙ at)
      ];
    } o

folder_removed : (tree : Tree) (n : ℕ) (folder : Name) (after : Tree) → FolderRemoved tree n folder after → IsOrderly tree → IsOrderly after
folder_removed tree n folder after c o =
    let was = o.rooms n c.room c.has_room in
    orderly_with tree n c.room c.new after c.has_room c.gives c.others.name record {
      folders = c.differ was.folders;
      paths = paths_differ_kept folder c.room c.new c.others was.paths;
      housed = λ path bytes at.
          let old : file_at c.room path ≡ Some bytes = sym (file_kept folder c.room c.new path c.others) ∙ at in
          elim (name_cases path.folder folder) as (λ _. has_folder c.new path.folder ≡ true) [
            | inl here ↦
                let none : file_at c.room path ≡ None = ap (λ f. file_at c.room (record { folder = f; file = path.file })) here ∙ c.empty path.file in
                let clash : None ≡ Some bytes = sym none ∙ old in
                absurd (cc)
            | inr apart ↦ c.others.folders path.folder apart ∙ was.housed path bytes old
          ];
    } o

room_made : (tree : Tree) (name : Name) (folders files : List Name) (after : Tree) → RoomMade tree name folders files after → NamesDiffer folders → NamesDiffer files → IsOrderly tree → IsOrderly after
room_made tree name folders files after c folders_differ files_differ o =
    let free : (n : ℕ) (room : Room) → slice_get tree.rooms n ≡ Some room → room.name ≡ c.new.name → ⊥ = λ n room e same. c.free n room e (same ∙ c.named) in
    let new : IsOrderlyRoom c.new = record {
      folders = new_folders_differ tree name folders files after c folders_differ;
      paths = c.differ files_differ;
      housed = λ path bytes at.
          let file = each_new_file tree name folders files after c path bytes at in
          has_new_folder tree name folders files after c path.folder ∙ ap (λ b. b || is_listed path.folder folders) file.1;
    } in
    orderly_same (record { rooms = tree.rooms ++ c.new ∷ [] }) after c.gives record {
      rooms_differ = rooms_differ_added tree c.new free o.rooms_differ;
      rooms = λ m r e. elim (each_with_added tree m c.new r e) as (λ _. IsOrderlyRoom r) [
        | inl last ↦ subst IsOrderlyRoom (sym last.1) new
        | inr other ↦ o.rooms m r other.1
      ];
    }

room_renamed : (tree : Tree) (n : ℕ) (to : Name) (after : Tree) → RoomRenamed tree n to after → IsOrderly tree → IsOrderly after
room_renamed tree n to after c o =
    let was = o.rooms n c.room c.has_room in
    let free : (m : ℕ) (room : Room) → slice_get tree.rooms m ≡ Some room → room.name ≡ c.new.name → ⊥ = λ m room e same. c.free m room e (same ∙ c.named) in
    let new : IsOrderlyRoom c.new = record {
      folders = subst (λ l. NamesDiffer l) (sym c.same_folders) was.folders;
      paths = subst (λ l. FilesDiffer l) (sym c.same_files) was.paths;
      housed = λ path bytes at. has_folder_same c.room c.new path.folder c.same_folders ∙ was.housed path bytes (sym (file_at_same c.room c.new path c.same_files) ∙ at);
    } in
    orderly_same (with_room tree n c.new) after c.gives record {
      rooms_differ = rooms_differ_renamed tree n c.room c.new c.has_room free o.rooms_differ;
      rooms = λ m r e. elim (each_room tree n m c.room c.new r c.has_room e) as (λ _. IsOrderlyRoom r) [
        | inl here ↦ subst IsOrderlyRoom (sym here.1) new
        | inr other ↦ o.rooms m r other.1
      ];
    }

pub orderly_told : (step : Step) (tree : Tree) (told : Result Answer Trouble) (after : Tree) → MakesOrderly step → Tells step tree told after → IsOrderly tree → IsOrderly after
orderly_told all_rooms tree told after makes t o = orderly_same tree after (look_told all_rooms tree told after tt t) o
orderly_told (find_room name) tree told after makes t o = orderly_same tree after (look_told (find_room name) tree told after tt t) o
orderly_told (make_room name folders files) tree told after makes t o = elim (make_room_told name folders files tree told after t).either as (λ _. IsOrderly after) [
  | inl c ↦ room_made tree name folders files after c makes.0 makes.1 o
  | inr same ↦ orderly_same tree after same o
]
orderly_told (rename_room n to) tree told after makes t o = elim (rename_room_told n to tree told after t).either as (λ _. IsOrderly after) [
  | inl c ↦ room_renamed tree n to after c o
  | inr same ↦ orderly_same tree after same o
]
orderly_told (make_folder n folder) tree told after makes t o = elim (make_folder_told n folder tree told after t).either as (λ _. IsOrderly after) [
  | inl c ↦ folder_made tree n folder after c o
  | inr same ↦ orderly_same tree after same o
]
orderly_told (remove_folder n folder) tree told after makes t o = elim (remove_folder_told n folder tree told after t).either as (λ _. IsOrderly after) [
  | inl c ↦ folder_removed tree n folder after c o
  | inr same ↦ orderly_same tree after same o
]
orderly_told (list_folder n folder) tree told after makes t o = orderly_same tree after (look_told (list_folder n folder) tree told after tt t) o
orderly_told (create n folder file) tree told after makes t o =
    let path : Path = record { folder = folder; file = file } in
    elim (create_told n path tree told after t).either as (λ _. IsOrderly after) [
      | inl c ↦ file_changed tree n path after (created_one tree n path after c) o
      | inr same ↦ orderly_same tree after same o
    ]
orderly_told (remove n folder file) tree told after makes t o =
    let path : Path = record { folder = folder; file = file } in
    elim (remove_told n path tree told after t).either as (λ _. IsOrderly after) [
      | inl c ↦ file_changed tree n path after (removed_one tree n path after c) o
      | inr same ↦ orderly_same tree after same o
    ]
orderly_told (replace n folder from to) tree told after makes t o =
    let path : Path = record { folder = folder; file = from } in
    elim (replace_told n path to tree told after t).either as (λ _. IsOrderly after) [
      | inl (inl c) ↦ moved tree n path to after c o
      | inl (inr c) ↦ orderly_same tree after c.2 o
      | inr same ↦ orderly_same tree after same o
    ]
orderly_told (length_of n folder file) tree told after makes t o = orderly_same tree after (look_told (length_of n folder file) tree told after tt t) o
orderly_told (read_at n folder file at len) tree told after makes t o = orderly_same tree after (look_told (read_at n folder file at len) tree told after tt t) o
orderly_told (write_at n folder file at bytes) tree told after makes t o =
    let path : Path = record { folder = folder; file = file } in
    elim (write_told n path at bytes tree told after t) as (λ _. IsOrderly after) [
      | inl w ↦ file_changed tree n path after (wrote_one tree n path at bytes after w.1) o
      | inr (u, inl same) ↦ orderly_same tree after same o
      | inr (u, inr p) ↦ file_changed tree n path after (wrote_one tree n path at (take p.0 bytes) after p.2) o
    ]
orderly_told (cut n folder file len) tree told after makes t o =
    let path : Path = record { folder = folder; file = file } in
    elim (cut_told n path len tree told after t).either as (λ _. IsOrderly after) [
      | inl c ↦ file_changed tree n path after (cut_one tree n path len after c) o
      | inr same ↦ orderly_same tree after same o
    ]
orderly_told (sync n folder file) tree told after makes t o =
    let path : Path = record { folder = folder; file = file } in
    elim (sync_told n path tree told after t).either as (λ _. IsOrderly after) [
      | inl c ↦ file_changed tree n path after (synced_one tree n path after c) o
      | inr same ↦ orderly_same tree after same o
    ]
