-- What stays of a tree and its rooms through each change.
use Rattle.std.proofs.Common.{◌≡◌, ◌<◌, ℕ, Bool, true, false, ◌||◌, ◌&&◌, List, [], ◌∷◌, ◌++◌, length, slice_get, Option, Some, None, refl, ap, sym, ◌∙◌, ◌⊎◌, inl, inr, subst, if◌then◌else◌}
use Rattle.std.proofs.lemmas.Bool.{cases_eq}
use Rattle.std.proofs.lemmas.Option.{slice_get_within}
use Rattle.plfs_types.specs.declared.names.Path.{Path}
use Rattle.store_api.specs.declared.tree.Room.{Room}
use Rattle.store_api.specs.declared.tree.Tree.{Tree}
use Rattle.store_api.specs.Step.{Name}
use Rattle.store_api.specs.Room.{is_top, has_folder}
use Rattle.store_laws.specs.Files.{file_at, AreTwo, SameButFile, SameButFolder}
use Rattle.store_laws.specs.Differ.{is_listed, NamesDiffer, FoldersDiffer, FilesDiffer, PathsDiffer, RoomsDiffer}
use Rattle.store_laws.specs.There.{IsFree}
use Rattle.store_laws.specs.Changes.{with_room, FileChanged, Created, Wrote, WasCut, WasSynced, Removed, RoomMade}
use Rattle.store_laws.proofs.Names.Places.{slice_get-slice_set, slice_get_other-slice_set, slice_get_before, slice_get_last, slice_get_more}
use Rattle.store_laws.proofs.Names.Naming.{name_cases, path_cases}
use Rattle.store_laws.proofs.Steps.Rooms.{file_at_same, has_folder_same}

-- ---- the rooms of a tree in which one has changed

-- the room that has changed
pub changed_room : (tree : Tree) (n : ℕ) (room new : Room) → slice_get tree.rooms n ≡ Some room → slice_get (with_room tree n new).rooms n ≡ Some new
changed_room tree n room new e = slice_get-slice_set tree.rooms n room new e

-- every other room
pub other_room : (tree : Tree) (n m : ℕ) (new : Room) → (m ≡ n → ⊥) → slice_get (with_room tree n new).rooms m ≡ slice_get tree.rooms m
other_room tree n m new other = slice_get_other-slice_set tree.rooms n m new other

-- each room is the one that has changed, or was there
pub each_room : (tree : Tree) (n m : ℕ) (room new r : Room) → slice_get tree.rooms n ≡ Some room → slice_get (with_room tree n new).rooms m ≡ Some r
    → ((m ≡ n) × (r ≡ new)) ⊎ ((m ≡ n → ⊥) × (slice_get tree.rooms m ≡ Some r))
each_room tree n m room new r e at = elim (cases_eq m n) as (λ _. ((m ≡ n) × (r ≡ new)) ⊎ ((m ≡ n → ⊥) × (slice_get tree.rooms m ≡ Some r))) [
  | inl here ↦
      let is : slice_get (with_room tree n new).rooms n ≡ Some r = subst (λ k. slice_get (with_room tree n new).rooms k ≡ Some r) here at in
      let now : slice_get (with_room tree n new).rooms n ≡ Some new = changed_room tree n room new e in
      let both : Some r ≡ Some new = sym is ∙ now in
      let same : r ≡ new = cc in
      inl (here, same)
  | inr other ↦ inr (other, sym (other_room tree n m new other) ∙ at)
]

-- the room that was added
pub added_room : (tree : Tree) (new : Room) → slice_get (tree.rooms ++ new ∷ []) (length tree.rooms) ≡ Some new
added_room tree new = slice_get_last tree.rooms new

-- every room that was there is there
pub earlier_room : (tree : Tree) (m : ℕ) (room new : Room) → slice_get tree.rooms m ≡ Some room → slice_get (tree.rooms ++ new ∷ []) m ≡ Some room
earlier_room tree m room new e = slice_get_before tree.rooms m room new e

-- each room is the one that was added, or was there
pub each_with_added : (tree : Tree) (m : ℕ) (new r : Room) → slice_get (tree.rooms ++ new ∷ []) m ≡ Some r
    → ((m ≡ length tree.rooms) × (r ≡ new)) ⊎ ((m < length tree.rooms) × (slice_get tree.rooms m ≡ Some r))
each_with_added tree m new r at = elim (cases_eq m (length tree.rooms)) as (λ _. ((m ≡ length tree.rooms) × (r ≡ new)) ⊎ ((m < length tree.rooms) × (slice_get tree.rooms m ≡ Some r))) [
  | inl last ↦ inl (last, (slice_get_more tree.rooms m r new at).0 last)
  | inr other ↦ let was : slice_get tree.rooms m ≡ Some r = (slice_get_more tree.rooms m r new at).1 other in inr (slice_get_within tree.rooms m r was, was)
]

-- ---- the names of rooms

-- a room that keeps its name
pub rooms_differ_kept : (tree : Tree) (n : ℕ) (room new : Room) → slice_get tree.rooms n ≡ Some room → new.name ≡ room.name → RoomsDiffer tree → RoomsDiffer (with_room tree n new)
rooms_differ_kept tree n room new e named differ i j a b at_i at_j same =
    let was : (k : ℕ) (r : Room) → slice_get (with_room tree n new).rooms k ≡ Some r → (old : Room) × (slice_get tree.rooms k ≡ Some old) × (r.name ≡ old.name) = λ k r at. elim (each_room tree n k room new r e at) as (λ _. (old : Room) × (slice_get tree.rooms k ≡ Some old) × (r.name ≡ old.name)) [
      | inl here ↦ (room, subst (λ m. slice_get tree.rooms m ≡ Some room) (sym here.0) e, ap (λ (x : Room). x.name) here.1 ∙ named)
      | inr other ↦ (r, other.1, refl)
    ] in
    let first = was i a at_i in
    let second = was j b at_j in
    differ i j first.0 second.0 first.1 second.1 (sym first.2 ∙ same ∙ second.2)

-- a room that gets a name that none had
pub rooms_differ_renamed : (tree : Tree) (n : ℕ) (room new : Room) → slice_get tree.rooms n ≡ Some room → IsFree tree new.name → RoomsDiffer tree → RoomsDiffer (with_room tree n new)
rooms_differ_renamed tree n room new e free differ i j a b at_i at_j same =
    elim (each_room tree n i room new a e at_i) as (λ _. i ≡ j) [
      | inl here ↦ elim (each_room tree n j room new b e at_j) as (λ _. i ≡ j) [
        | inl there ↦ here.0 ∙ sym there.0
        | inr other ↦ absurd (free j b other.1 (sym same ∙ ap (λ (x : Room). x.name) here.1))
      ]
      | inr apart ↦ elim (each_room tree n j room new b e at_j) as (λ _. i ≡ j) [
        | inl there ↦ absurd (free i a apart.1 (same ∙ ap (λ (x : Room). x.name) there.1))
        | inr other ↦ differ i j a b apart.1 other.1 same
      ]
    ]

-- a room that is added under a name that none had
pub rooms_differ_added : (tree : Tree) (new : Room) → IsFree tree new.name → RoomsDiffer tree → RoomsDiffer (record { rooms = tree.rooms ++ new ∷ [] })
rooms_differ_added tree new free differ i j a b at_i at_j same =
    elim (each_with_added tree i new a at_i) as (λ _. i ≡ j) [
      | inl here ↦ elim (each_with_added tree j new b at_j) as (λ _. i ≡ j) [
        | inl there ↦ here.0 ∙ sym there.0
        | inr other ↦ absurd (free j b other.1 (sym same ∙ ap (λ (x : Room). x.name) here.1))
      ]
      | inr apart ↦ elim (each_with_added tree j new b at_j) as (λ _. i ≡ j) [
        | inl there ↦ absurd (free i a apart.1 (same ∙ ap (λ (x : Room). x.name) there.1))
        | inr other ↦ differ i j a b apart.1 other.1 same
      ]
    ]

-- ---- a room in which one file has changed

pub folder_kept : (path : Path) (room new : Room) (folder : Name) → SameButFile path room new → has_folder new folder ≡ has_folder room folder
folder_kept path room new folder s = has_folder_same room new folder s.folders

pub folders_differ_kept : (path : Path) (room new : Room) → SameButFile path room new → FoldersDiffer room → FoldersDiffer new
folders_differ_kept path room new s d = subst (λ folders. NamesDiffer folders) (sym s.folders) d

-- each file of the new room is at the path, or was there
pub each_file : (path other : Path) (room new : Room) (bytes : List ℕ) → SameButFile path room new → file_at new other ≡ Some bytes → (other ≡ path) ⊎ (AreTwo other path × (file_at room other ≡ Some bytes))
each_file path other room new bytes s at = elim (path_cases other path) as (λ _. (other ≡ path) ⊎ (AreTwo other path × (file_at room other ≡ Some bytes))) [
  | inl here ↦ inl here
  | inr two ↦ inr (two, sym (s.files other two) ∙ at)
]

-- each change of a file changes that file alone
pub created_one : (tree : Tree) (n : ℕ) (path : Path) (after : Tree) → Created tree n path after → FileChanged tree n path after
created_one tree n path after c = record { room = c.room; new = c.new; has_room = c.has_room; folder = c.folder; others = c.others; differ = c.differ; gives = c.gives }

pub wrote_one : (tree : Tree) (n : ℕ) (path : Path) (at : ℕ) (bytes : List ℕ) (after : Tree) → Wrote tree n path at bytes after → FileChanged tree n path after
wrote_one tree n path at bytes after c = record { room = c.room; new = c.new; has_room = c.has_room; folder = c.folder; others = c.others; differ = c.differ; gives = c.gives }

pub cut_one : (tree : Tree) (n : ℕ) (path : Path) (len : ℕ) (after : Tree) → WasCut tree n path len after → FileChanged tree n path after
cut_one tree n path len after c = record { room = c.room; new = c.new; has_room = c.has_room; folder = c.folder; others = c.others; differ = c.differ; gives = c.gives }

pub removed_one : (tree : Tree) (n : ℕ) (path : Path) (after : Tree) → Removed tree n path after → FileChanged tree n path after
removed_one tree n path after c = record { room = c.room; new = c.new; has_room = c.has_room; folder = c.folder; others = c.others; differ = c.differ; gives = c.gives }

pub synced_one : (tree : Tree) (n : ℕ) (path : Path) (after : Tree) → WasSynced tree n path after → FileChanged tree n path after
synced_one tree n path after c = record { room = c.room; new = c.new; has_room = c.has_room; folder = c.folder; others = c.others; differ = c.differ; gives = c.gives }

-- ---- a room in which one folder has come or gone

pub file_kept : (folder : Name) (room new : Room) (path : Path) → SameButFolder folder room new → file_at new path ≡ file_at room path
file_kept folder room new path s = file_at_same room new path s.files

pub paths_differ_kept : (folder : Name) (room new : Room) → SameButFolder folder room new → PathsDiffer room → PathsDiffer new
paths_differ_kept folder room new s d = subst (λ files. FilesDiffer files) (sym s.files) d

-- each folder of the new room is this one, or was there
pub each_folder : (folder other : Name) (room new : Room) → SameButFolder folder room new → has_folder new other ≡ true → (other ≡ folder) ⊎ ((other ≡ folder → ⊥) × (has_folder room other ≡ true))
each_folder folder other room new s at = elim (name_cases other folder) as (λ _. (other ≡ folder) ⊎ ((other ≡ folder → ⊥) × (has_folder room other ≡ true))) [
  | inl here ↦ inl here
  | inr apart ↦ inr (apart, sym (s.folders other apart) ∙ at)
]

-- ---- a new room

top_file : (a b : Bool) (bytes : List ℕ) → ◌≡◌ {A = Option (List ℕ)} (if a && b then Some [] else None) (Some bytes) → (bytes ≡ []) × (a ≡ true) × (b ≡ true)
top_file true true bytes e = let same : [] ≡ bytes = cc in (sym same, refl, refl)
top_file true false bytes e = absurd (cc)
top_file false b bytes e = absurd (cc)

-- each file of a new room is one of its empty top files
pub each_new_file : (tree : Tree) (name : Name) (folders files : List Name) (after : Tree) (made : RoomMade tree name folders files after) (path : Path) (bytes : List ℕ) → file_at made.new path ≡ Some bytes → (bytes ≡ []) × (is_top path.folder ≡ true) × (is_listed path.file files ≡ true)
each_new_file tree name folders files after made path bytes at = top_file (is_top path.folder) (is_listed path.file files) bytes (sym (made.has_files path) ∙ at)

-- a name of its top files is that of an empty file
pub has_new_file : (tree : Tree) (name : Name) (folders files : List Name) (after : Tree) (made : RoomMade tree name folders files after) (file : Name) → is_listed file files ≡ true → file_at made.new (record { folder = []; file = file }) ≡ Some []
has_new_file tree name folders files after made file listed =
    made.has_files (record { folder = []; file = file }) ∙ ap (λ b. if b then Some [] else None) listed

-- its folders are the top and those that were given
pub has_new_folder : (tree : Tree) (name : Name) (folders files : List Name) (after : Tree) (made : RoomMade tree name folders files after) (folder : Name) → has_folder made.new folder ≡ (is_top folder || is_listed folder folders)
has_new_folder tree name folders files after made folder = ap (λ l. is_top folder || is_listed folder l) made.has_folders

pub new_folders_differ : (tree : Tree) (name : Name) (folders files : List Name) (after : Tree) (made : RoomMade tree name folders files after) → NamesDiffer folders → FoldersDiffer made.new
new_folders_differ tree name folders files after made d = subst (λ l. NamesDiffer l) (sym made.has_folders) d
