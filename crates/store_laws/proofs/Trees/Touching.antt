-- A step changes what it names, and nothing else.
use Rattle.std.proofs.Common.{◌≡◌, ℕ, slice_get, Some, refl, ap, sym, ◌∙◌, inl, inr, subst}
use Rattle.std.specs.Prelude.{Result}
use Rattle.std.proofs.lemmas.Bool.{cases_eq}
use Rattle.plfs_types.specs.declared.names.Path.{Path}
use Rattle.store_api.specs.declared.tree.Room.{Room}
use Rattle.store_api.specs.declared.tree.Tree.{Tree}
use Rattle.store_api.specs.declared.step.Answer.{Answer}
use Rattle.store_api.specs.declared.store.Trouble.{Trouble}
use Rattle.store_api.specs.Step.{Step, Name, rooms, find_room, make_room, rename_room, make_folder, remove_folder, list_folder, create, remove, replace, length_of, read_at, write_at, cut, sync}
use Rattle.store_laws.specs.Files.{file_at, AreTwo, SameButFolder}
use Rattle.store_laws.specs.Tells.{Tells}
use Rattle.store_laws.specs.Changes.{with_room, FileChanged, WasSynced}
use Rattle.store_laws.specs.Naming.{NamesFile, NamesKept, NamesFolder, KeepsRoom, KeepsRooms}
use Rattle.store_laws.proofs.Names.Naming.{path_cases}
use Rattle.store_laws.proofs.Steps.Rooms.{file_at_same, kept_at_same, has_folder_same}
use Rattle.store_laws.proofs.Trees.Telling.{create_told, remove_told, replace_told, write_told, cut_told, sync_told, make_folder_told, remove_folder_told, make_room_told, rename_room_told}
use Rattle.store_laws.proofs.Looks.Answering.{look_told}
use Rattle.store_laws.proofs.Trees.Keeping.{changed_room, other_room, earlier_room, created_one, wrote_one, cut_one, removed_one}

keeps_itself : (step : Step) (n : ℕ) (room : Room) → KeepsRoom step n room room
keeps_itself step n room = record { name = λ no. refl; folders = λ folder no. refl; files = λ path no. refl; kepts = λ path no. refl }

keeps_tree : (step : Step) (tree after : Tree) → after ≡ tree → KeepsRooms step tree after
keeps_tree step tree after same n room e = (room, ap (λ (t : Tree). slice_get t.rooms n) same ∙ e, keeps_itself step n room)

-- where one room has changed
keeps_by : (step : Step) (tree : Tree) (n : ℕ) (room new : Room) (after : Tree) → slice_get tree.rooms n ≡ Some room → after ≡ with_room tree n new → KeepsRoom step n room new → KeepsRooms step tree after
keeps_by step tree n room new after there gives keeps m r e = elim (cases_eq m n) as (λ _. (now : Room) × (slice_get after.rooms m ≡ Some now) × KeepsRoom step m r now) [
  | inl here ↦
      let both : Some room ≡ Some r = sym there ∙ ap (λ k. slice_get tree.rooms k) (sym here) ∙ e in
      let same : room ≡ r = cc in
      let at : slice_get after.rooms m ≡ Some new = ap (λ k. slice_get after.rooms k) here ∙ ap (λ (t : Tree). slice_get t.rooms n) gives ∙ changed_room tree n room new there in
      (new, at, subst (λ x. KeepsRoom step m x new) same (subst (λ k. KeepsRoom step k room new) (sym here) keeps))
  | inr other ↦ (r, ap (λ (t : Tree). slice_get t.rooms m) gives ∙ other_room tree n m new other ∙ e, keeps_itself step m r)
]

-- where one file has changed
keeps_file : (step : Step) (tree : Tree) (n : ℕ) (path : Path) (after : Tree) → FileChanged tree n path after → ((other : Path) → (NamesFile step n other → ⊥) → AreTwo other path) → ((other : Path) → (NamesKept step n other → ⊥) → AreTwo other path) → KeepsRooms step tree after
keeps_file step tree n path after c names kepts =
    keeps_by step tree n c.room c.new after c.has_room c.gives record {
      name = λ no. c.others.name;
      folders = λ folder no. has_folder_same c.room c.new folder c.others.folders;
      files = λ other no. c.others.files other (names other no);
      kepts = λ other no. c.others.kepts other (kepts other no);
    }

-- where one file was synced
keeps_synced : (step : Step) (tree : Tree) (n : ℕ) (path : Path) (after : Tree) → WasSynced tree n path after → ((other : Path) → (NamesKept step n other → ⊥) → AreTwo other path) → KeepsRooms step tree after
keeps_synced step tree n path after c kepts =
    keeps_by step tree n c.room c.new after c.has_room c.gives record {
      name = λ no. c.others.name;
      folders = λ folder no. has_folder_same c.room c.new folder c.others.folders;
      files = λ other no. elim (path_cases other path) as (λ _. file_at c.new other ≡ file_at c.room other) [
        | inl one ↦ subst (λ p. file_at c.new p ≡ file_at c.room p) (sym one) (c.now ∙ sym c.there)
        | inr two ↦ c.others.files other two
      ];
      kepts = λ other no. c.others.kepts other (kepts other no);
    }

-- where one folder has come or gone
keeps_folder : (step : Step) (tree : Tree) (n : ℕ) (folder : Name) (room new : Room) (after : Tree) → slice_get tree.rooms n ≡ Some room → after ≡ with_room tree n new → SameButFolder folder room new → ((other : Name) → (NamesFolder step n other → ⊥) → other ≡ folder → ⊥) → KeepsRooms step tree after
keeps_folder step tree n folder room new after there gives s names =
    keeps_by step tree n room new after there gives record {
      name = λ no. s.name;
      folders = λ other no. s.folders other (names other no);
      files = λ path no. file_at_same room new path s.files;
      kepts = λ path no. kept_at_same room new path s.files;
    }

pub keeps_rooms : (step : Step) (tree : Tree) (told : Result Answer Trouble) (after : Tree) → Tells step tree told after → KeepsRooms step tree after
keeps_rooms rooms tree told after t = keeps_tree rooms tree after (look_told rooms tree told after tt t)
keeps_rooms (find_room name) tree told after t = keeps_tree (find_room name) tree after (look_told (find_room name) tree told after tt t)
keeps_rooms (make_room name folders files) tree told after t = elim (make_room_told name folders files tree told after t).either as (λ _. KeepsRooms (make_room name folders files) tree after) [
  | inl c ↦ λ n room e. (room, ap (λ (x : Tree). slice_get x.rooms n) c.gives ∙ earlier_room tree n room c.new e, keeps_itself (make_room name folders files) n room)
  | inr same ↦ keeps_tree (make_room name folders files) tree after same
]
keeps_rooms (rename_room n to) tree told after t = elim (rename_room_told n to tree told after t).either as (λ _. KeepsRooms (rename_room n to) tree after) [
  | inl c ↦ keeps_by (rename_room n to) tree n c.room c.new after c.has_room c.gives record {
    name = λ no. absurd (no refl);
    folders = λ folder no. has_folder_same c.room c.new folder c.same_folders;
    files = λ path no. file_at_same c.room c.new path c.same_files;
    kepts = λ path no. kept_at_same c.room c.new path c.same_files;
  }
  | inr same ↦ keeps_tree (rename_room n to) tree after same
]
keeps_rooms (make_folder n folder) tree told after t = elim (make_folder_told n folder tree told after t).either as (λ _. KeepsRooms (make_folder n folder) tree after) [
  | inl c ↦ keeps_folder (make_folder n folder) tree n folder c.room c.new after c.has_room c.gives c.others (λ other no same. no (refl, same))
  | inr same ↦ keeps_tree (make_folder n folder) tree after same
]
keeps_rooms (remove_folder n folder) tree told after t = elim (remove_folder_told n folder tree told after t).either as (λ _. KeepsRooms (remove_folder n folder) tree after) [
  | inl c ↦ keeps_folder (remove_folder n folder) tree n folder c.room c.new after c.has_room c.gives c.others (λ other no same. no (refl, same))
  | inr same ↦ keeps_tree (remove_folder n folder) tree after same
]
keeps_rooms (list_folder n folder) tree told after t = keeps_tree (list_folder n folder) tree after (look_told (list_folder n folder) tree told after tt t)
keeps_rooms (create n folder file) tree told after t =
    let path : Path = record { folder = folder; file = file } in
    elim (create_told n path tree told after t).either as (λ _. KeepsRooms (create n folder file) tree after) [
      | inl c ↦ keeps_file (create n folder file) tree n path after (created_one tree n path after c) (λ other no f g. no (refl, (f, g))) (λ other no f g. no (refl, (f, g)))
      | inr same ↦ keeps_tree (create n folder file) tree after same
    ]
keeps_rooms (remove n folder file) tree told after t =
    let path : Path = record { folder = folder; file = file } in
    elim (remove_told n path tree told after t).either as (λ _. KeepsRooms (remove n folder file) tree after) [
      | inl c ↦ keeps_file (remove n folder file) tree n path after (removed_one tree n path after c) (λ other no f g. no (refl, (f, g))) (λ other no f g. no (refl, (f, g)))
      | inr same ↦ keeps_tree (remove n folder file) tree after same
    ]
keeps_rooms (replace n folder from to) tree told after t =
    let path : Path = record { folder = folder; file = from } in
    elim (replace_told n path to tree told after t).either as (λ _. KeepsRooms (replace n folder from to) tree after) [
      | inl (inl c) ↦ keeps_by (replace n folder from to) tree n c.room c.new after c.has_room c.gives record {
        name = λ no. c.same_name;
        folders = λ other no. has_folder_same c.room c.new other c.same_folders;
        files = λ other no. c.others other (λ f g. no (refl, inl (f, g))) (λ f g. no (refl, inr (f, g)));
        kepts = λ other no. c.kepts other (λ f g. no (refl, inl (f, g))) (λ f g. no (refl, inr (f, g)));
      }
      | inl (inr c) ↦ keeps_tree (replace n folder from to) tree after c.2
      | inr same ↦ keeps_tree (replace n folder from to) tree after same
    ]
keeps_rooms (length_of n folder file) tree told after t = keeps_tree (length_of n folder file) tree after (look_told (length_of n folder file) tree told after tt t)
keeps_rooms (read_at n folder file at len) tree told after t = keeps_tree (read_at n folder file at len) tree after (look_told (read_at n folder file at len) tree told after tt t)
keeps_rooms (write_at n folder file at bytes) tree told after t =
    let path : Path = record { folder = folder; file = file } in
    elim (write_told n path at bytes tree told after t) as (λ _. KeepsRooms (write_at n folder file at bytes) tree after) [
      | inl w ↦ keeps_file (write_at n folder file at bytes) tree n path after (wrote_one tree n path at bytes after w.1) (λ other no f g. no (refl, (f, g))) (λ other no f g. no (refl, (f, g)))
      | inr (u, inl same) ↦ keeps_tree (write_at n folder file at bytes) tree after same
      | inr (u, inr p) ↦ keeps_file (write_at n folder file at bytes) tree n path after (wrote_one tree n path at _ after p.2) (λ other no f g. no (refl, (f, g))) (λ other no f g. no (refl, (f, g)))
    ]
keeps_rooms (cut n folder file len) tree told after t =
    let path : Path = record { folder = folder; file = file } in
    elim (cut_told n path len tree told after t).either as (λ _. KeepsRooms (cut n folder file len) tree after) [
      | inl c ↦ keeps_file (cut n folder file len) tree n path after (cut_one tree n path len after c) (λ other no f g. no (refl, (f, g))) (λ other no f g. no (refl, (f, g)))
      | inr same ↦ keeps_tree (cut n folder file len) tree after same
    ]
keeps_rooms (sync n folder file) tree told after t =
    let path : Path = record { folder = folder; file = file } in
    elim (sync_told n path tree told after t).either as (λ _. KeepsRooms (sync n folder file) tree after) [
      | inl c ↦ keeps_synced (sync n folder file) tree n path after c (λ other no f g. no (refl, (f, g)))
      | inr same ↦ keeps_tree (sync n folder file) tree after same
    ]
