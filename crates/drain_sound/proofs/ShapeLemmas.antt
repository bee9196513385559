-- A tree without a mount keeps its shape where one of its rooms has changed, or one was added.
use Rattle.std.proofs.Common.{◌≡◌, ℕ, ◌<◌, ◌≤◌, ◌%◌, ◌^◌, Bool, true, false, ◌||◌, List, [], ◌∷◌, ◌++◌, slice_get, Some, refl, ap, sym, ◌∙◌, ◌⊎◌, inl, inr, subst, if◌then◌else◌, arith}
use Rattle.std.specs.Prelude.{codes}
use Rattle.std.specs.Fmt.{decimal}
use Rattle.std.proofs.lemmas.Bool.{cases_eq}
use Rattle.std.proofs.lemmas.Bool.Decides.{nat_tests}
use Rattle.std.proofs.lemmas.List.Folds.{list_any-append}
use Rattle.plfs_types.specs.Names.{IsLogicalName}
use Rattle.plfs_types.specs.declared.names.Path.{Path}
use Rattle.container_layout.specs.declared.items.Item.{Item}
use Rattle.container_layout.specs.declared.items.Item.TheVariants.{Access, OpenHost, Meta, Trunc, Flat, TmpFlat, Index, Log, Packed, TmpPacked}
use Rattle.container_layout.specs.Paths.{IsAt, hostdir_of}
use Rattle.store_api.specs.declared.step.Answer.TheVariants.{Old}
use Rattle.store_api.specs.declared.tree.Room.{Room}
use Rattle.store_api.specs.declared.tree.Tree.{Tree}
use Rattle.store_api.specs.Effect.{or_no_room, tree_after}
use Rattle.store_api.specs.Names.{same_name}
use Rattle.store_api.specs.Room.{becomes, folder_made, has_folder, is_top, stays}
use Rattle.store_api.specs.Step.{make_folder}
use Rattle.store_laws.specs.Changes.{FolderMade, RoomMade, with_room}
use Rattle.store_laws.specs.Differ.{FoldersDiffer, PathsDiffer, is_listed}
use Rattle.store_laws.specs.Files.{AreTwo, SameButFile, SameButFolder, file_at}
use Rattle.store_laws.specs.There.{IsFree}
use Rattle.store_laws.proofs.Facts.{changed_room, each_file, each_folder, each_new_file, each_room, each_with_added, earlier_room, file_kept, folder_kept, folders_differ_kept, has_new_file, has_new_folder, name_cases, name_eq, new_folders_differ, other_room, path_eq, paths_differ_kept, rooms_differ_added, rooms_differ_kept, with_folder}
use Rattle.mount_model.specs.Paths.{Name, access_path, flats, mark_path, metadata, new_files, new_folders, truncs}
use Rattle.store_api.specs.Names.{marks_folder}
use Rattle.container_layout.specs.Paths.{openhosts}
use Rattle.store_api.specs.Names.{marks_name}
use Rattle.mount_sound.specs.Container.{IsContainer, IsContainerFolder, IsItemFile, IsOfId}
use Rattle.mount_sound.specs.Marks.{HasMark, IsMarkFile, IsMarksRoom, IsOfMark}
use Rattle.mount_sound.specs.Shape.{IsShapedTree}
use Rattle.drain_sound.proofs.RoomLemmas.{with_added}

-- ---- ids of marks

-- an id stays one of a mark, where the marks stay
pub of_mark_stays : (tree after : Tree) → ((mount : ℕ) → HasMark tree mount → HasMark after mount) → (id : ℕ) → IsOfMark tree id → IsOfMark after id
of_mark_stays tree after marks id o = record {
  mount = o.mount;
  serial = o.serial;
  has_mark = marks o.mount o.has_mark;
  mount_fits = o.mount_fits;
  some = o.some;
  serial_fits = o.serial_fits;
  is = o.is;
}

ids_wider : (few many : ℕ → Type 0) (item : Item) → ((id : ℕ) → few id → many id) → IsOfId few item → IsOfId many item
ids_wider few many (OpenHost host writer) more is = more writer is
ids_wider few many (Meta last bytes stamp host writer) more is = more writer is
ids_wider few many (Index host writer) more is = more writer is
ids_wider few many (Log host writer) more is = more writer is
ids_wider few many (Packed host writer) more is = more writer is
ids_wider few many Access more is = tt
ids_wider few many (Trunc stamp size) more is = tt
ids_wider few many (Flat id) more is = more id is
ids_wider few many (TmpFlat id) more is = more id is
ids_wider few many (TmpPacked host id) more is = more id is

container_wider : (few many : ℕ → Type 0) (room : Room) → ((id : ℕ) → few id → many id) → IsContainer few room → IsContainer many room
container_wider few many room more c = record {
  named = c.named;
  folders_differ = c.folders_differ;
  paths_differ = c.paths_differ;
  has_metadata = c.has_metadata;
  has_truncs = c.has_truncs;
  has_flats = c.has_flats;
  has_access = c.has_access;
  folders = c.folders;
  top_unlisted = c.top_unlisted;
  files = λ path bytes at.
      let f = c.files path bytes at in
      record { item = f.item; is_at = f.is_at; holds = f.holds; id = ids_wider few many f.item more f.id; housed = f.housed };
}

room_wider : (few many : ℕ → Type 0) (room : Room) → ((id : ℕ) → few id → many id) → IsMarksRoom room ⊎ IsContainer few room → IsMarksRoom room ⊎ IsContainer many room
room_wider few many room more (inl m) = inl m
room_wider few many room more (inr c) = inr (container_wider few many room more c)

-- ---- a room has changed

module _ (tree : Tree) (n : ℕ) (room new : Room) (there : slice_get tree.rooms n ≡ Some room) (named : new.name ≡ room.name) (marks : room.name ≡ marks_name → (mount : ℕ) → file_at room (mark_path mount) ≡ Some [] → file_at new (mark_path mount) ≡ Some []) where
  -- the marks stay
  pub marks_stay : (m : ℕ) → HasMark tree m → HasMark (with_room tree n new) m
  marks_stay m has = elim (cases_eq has.number n) as (λ _. HasMark (with_room tree n new) m) [
    | inl same ↦
        let both : Some room ≡ Some has.room = sym there ∙ ap (λ k. slice_get tree.rooms k) (sym same) ∙ has.there in
        let is : room ≡ has.room = cc in
        let name : room.name ≡ marks_name = ap (λ (r : Room). r.name) is ∙ has.named in
        record { number = n; room = new; there = changed_room tree n room new there; named = named ∙ name; mark = marks name m (ap (λ r. file_at r (mark_path m)) is ∙ has.mark) }
    | inr other ↦ record { number = has.number; room = has.room; there = other_room tree n has.number new other ∙ has.there; named = has.named; mark = has.mark }
  ]

  -- the tree keeps its shape where the room does
  pub shape_changed : IsShapedTree (IsOfMark tree) tree → (((id : ℕ) → IsOfMark tree id → IsOfMark (with_room tree n new) id) → IsMarksRoom room ⊎ IsContainer (IsOfMark (with_room tree n new)) room → IsMarksRoom new ⊎ IsContainer (IsOfMark (with_room tree n new)) new)
      → IsShapedTree (IsOfMark (with_room tree n new)) (with_room tree n new)
  shape_changed s turns =
      let wider = of_mark_stays tree (with_room tree n new) marks_stay in
      record {
        rooms_differ = rooms_differ_kept tree n room new there named s.rooms_differ;
        rooms = λ k r at. elim (each_room tree n k room new r there at) as (λ _. IsMarksRoom r ⊎ IsContainer (IsOfMark (with_room tree n new)) r) [
          | inl here ↦ subst (λ x. IsMarksRoom x ⊎ IsContainer (IsOfMark (with_room tree n new)) x) (sym here.1) (turns wider (room_wider (IsOfMark tree) (IsOfMark (with_room tree n new)) room wider (s.rooms n room there)))
          | inr other ↦ room_wider (IsOfMark tree) (IsOfMark (with_room tree n new)) r wider (s.rooms k r other.1)
        ];
      }

-- ---- a room was added

pub marks_stay_added : (tree : Tree) (new : Room) (m : ℕ) → HasMark tree m → HasMark (with_added tree new) m
marks_stay_added tree new m has = record {
  number = has.number;
  room = has.room;
  there = earlier_room tree has.number has.room new has.there;
  named = has.named;
  mark = has.mark;
}

pub shape_added : (tree : Tree) (new : Room) → IsFree tree new.name → IsMarksRoom new ⊎ IsContainer (IsOfMark (with_added tree new)) new → IsShapedTree (IsOfMark tree) tree → IsShapedTree (IsOfMark (with_added tree new)) (with_added tree new)
shape_added tree new free is s =
    let wider = of_mark_stays tree (with_added tree new) (marks_stay_added tree new) in
    record {
      rooms_differ = rooms_differ_added tree new free s.rooms_differ;
      rooms = λ k r at. elim (each_with_added tree k new r at) as (λ _. IsMarksRoom r ⊎ IsContainer (IsOfMark (with_added tree new)) r) [
        | inl here ↦ subst (λ x. IsMarksRoom x ⊎ IsContainer (IsOfMark (with_added tree new)) x) (sym here.1) is
        | inr other ↦ room_wider (IsOfMark tree) (IsOfMark (with_added tree new)) r wider (s.rooms k r other.1)
      ];
    }

-- ---- a container

dotted_name : IsLogicalName marks_name → ⊥
dotted_name logical = logical.no_dot refl

-- a room of a logical name is no room of marks
pub no_marks : (name : Name) (room : Room) → IsLogicalName name → room.name ≡ name → room.name ≡ marks_name → ⊥
no_marks name room logical named marks = dotted_name (subst IsLogicalName (sym named ∙ marks) logical)

pub container_of : (allowed : ℕ → Type 0) (name : Name) (room : Room) → IsLogicalName name → room.name ≡ name → IsMarksRoom room ⊎ IsContainer allowed room → IsContainer allowed room
container_of allowed name room logical named (inl m) = absurd (no_marks name room logical named m.named)
container_of allowed name room logical named (inr c) = c

-- the file of an item has come, or other bytes of it
pub container_filed : (allowed : ℕ → Type 0) (room new : Room) (path : Path) (bytes : List ℕ) → SameButFile path room new → (PathsDiffer room → PathsDiffer new) → AreTwo access_path path → IsItemFile allowed room path bytes → file_at new path ≡ Some bytes → IsContainer allowed room → IsContainer allowed new
container_filed allowed room new path bytes others differ apart is now c = record {
  named = subst IsLogicalName (sym others.name) c.named;
  folders_differ = folders_differ_kept path room new others c.folders_differ;
  paths_differ = differ c.paths_differ;
  has_metadata = folder_kept path room new metadata others ∙ c.has_metadata;
  has_truncs = folder_kept path room new truncs others ∙ c.has_truncs;
  has_flats = folder_kept path room new flats others ∙ c.has_flats;
  has_access = others.files access_path apart ∙ c.has_access;
  folders = λ folder at. c.folders folder (sym (folder_kept path room new folder others) ∙ at);
  top_unlisted = ap (λ folders. is_listed [] folders) others.folders ∙ c.top_unlisted;
  files = λ other stored at. elim (each_file path other room new stored others at) as (λ _. IsItemFile allowed new other stored) [
    | inl same ↦
        let both : Some bytes ≡ Some stored = sym now ∙ ap (λ p. file_at new p) (sym same) ∙ at in
        let equal : bytes ≡ stored = cc in
        subst (λ b. IsItemFile allowed new other b) equal (subst (λ p. IsItemFile allowed new p bytes) (sym same) (moved path bytes is))
    | inr old ↦ moved other stored (c.files other stored old.1)
  ];
}
  where
    moved : (other : Path) (stored : List ℕ) → IsItemFile allowed room other stored → IsItemFile allowed new other stored
    moved other stored f = record { item = f.item; is_at = f.is_at; holds = f.holds; id = f.id; housed = folder_kept path room new other.folder others ∙ f.housed }

-- the folder of a host's droppings is one that a container may have
remainder : (host : ℕ) → (host % 32 < 32) × (host % 32 ≡ (host % 32) % 32)
remainder host = (omega arith, omega arith)

hostdir_known : (host : ℕ) → IsContainerFolder (hostdir_of host)
hostdir_known host = let r = remainder host in inr (inr (inr (inr (inr (host % 32, r.0, ap (λ n. codes "hostdir." ++ decimal n) r.1)))))

has_yet : (folder other : Name) (room new : Room) → SameButFolder folder room new → has_folder new folder ≡ true → has_folder room other ≡ true → has_folder new other ≡ true
has_yet folder other room new others now there = elim (name_cases other folder) as (λ _. has_folder new other ≡ true) [
  | inl same ↦ ap (λ f. has_folder new f) same ∙ now
  | inr apart ↦ others.folders other apart ∙ there
]

-- a host's folder has come
container_housed : (allowed : ℕ → Type 0) (room new : Room) (host : ℕ) → has_folder new (hostdir_of host) ≡ true → SameButFolder (hostdir_of host) room new → (FoldersDiffer room → FoldersDiffer new) → is_listed [] new.folders ≡ false → IsContainer allowed room → IsContainer allowed new
container_housed allowed room new host now others differ top c = record {
  named = subst IsLogicalName (sym others.name) c.named;
  folders_differ = differ c.folders_differ;
  paths_differ = paths_differ_kept (hostdir_of host) room new others c.paths_differ;
  has_metadata = yet metadata c.has_metadata;
  has_truncs = yet truncs c.has_truncs;
  has_flats = yet flats c.has_flats;
  has_access = file_kept (hostdir_of host) room new access_path others ∙ c.has_access;
  folders = λ other at. elim (each_folder (hostdir_of host) other room new others at) as (λ _. IsContainerFolder other) [
    | inl same ↦ subst IsContainerFolder (sym same) (hostdir_known host)
    | inr old ↦ c.folders other old.1
  ];
  top_unlisted = top;
  files = λ path bytes at.
      let f = c.files path bytes (sym (file_kept (hostdir_of host) room new path others) ∙ at) in
      record { item = f.item; is_at = f.is_at; holds = f.holds; id = f.id; housed = yet path.folder f.housed };
}
  where
    yet : (other : Name) → has_folder room other ≡ true → has_folder new other ≡ true
    yet other there = has_yet (hostdir_of host) other room new others now there

-- ---- its folders, where one was made

folder_whole : (tree : Tree) (n : ℕ) (folder : Name) (room : Room) → slice_get tree.rooms n ≡ Some room → has_folder room folder ≡ false → tree_after tree (make_folder n folder) ≡ with_room tree n (with_folder room folder)
folder_whole tree n folder room there none =
    ap (λ found. (or_no_room tree n (λ r. folder_made r folder) found).tree) there
    ∙ ap (λ b. with_room tree n (if b then stays room (Old 0) else becomes (with_folder room folder)).room) none

one_room : (tree : Tree) (n : ℕ) (room a b : Room) → slice_get tree.rooms n ≡ Some room → with_room tree n a ≡ with_room tree n b → a ≡ b
one_room tree n room a b there trees =
    let rooms : Some a ≡ Some b = sym (changed_room tree n room a there) ∙ ap (λ (t : Tree). slice_get t.rooms n) trees ∙ changed_room tree n room b there in
    cc

folders_made : (tree : Tree) (n : ℕ) (folder : Name) (made : FolderMade tree n folder (tree_after tree (make_folder n folder))) → made.new.folders ≡ made.room.folders ++ folder ∷ []
folders_made tree n folder made =
    ap (λ (r : Room). r.folders) (one_room tree n made.room made.new (with_folder made.room folder) made.has_room (sym made.gives ∙ folder_whole tree n folder made.room made.has_room made.none))

neither : (a b : Bool) → a ≡ false → b ≡ false → (a || b) ≡ false
neither true b e f = absurd (cc)
neither false b e f = f

top_apart : (room : Room) (folder : Name) → has_folder room folder ≡ false → same_name folder [] ≡ false
top_apart room [] none = absurd (cc)
top_apart room (x ∷ xs) none = refl

top_unlisted_yet : (room : Room) (folder : Name) → has_folder room folder ≡ false → is_listed [] room.folders ≡ false → is_listed [] (room.folders ++ folder ∷ []) ≡ false
top_unlisted_yet room folder none unlisted =
    list_any-append (λ other. same_name other []) room.folders (folder ∷ []) ∙ neither (is_listed [] room.folders) (same_name folder [] || false) unlisted (neither (same_name folder []) false (top_apart room folder none) refl)

pub folder_container : (allowed : ℕ → Type 0) (tree : Tree) (n host : ℕ) (made : FolderMade tree n (hostdir_of host) (tree_after tree (make_folder n (hostdir_of host)))) → IsContainer allowed made.room → IsContainer allowed made.new
folder_container allowed tree n host made c =
    container_housed allowed made.room made.new host made.now made.others made.differ
    (ap (λ folders. is_listed [] folders) (folders_made tree n (hostdir_of host) made) ∙ top_unlisted_yet made.room (hostdir_of host) made.none c.top_unlisted) c

-- ---- new rooms

top_empty : (folder : Name) → is_top folder ≡ true → folder ≡ []
top_empty [] t = refl
top_empty (x ∷ xs) t = absurd (grind (arith, nat_tests))

one_of : (a b : Bool) → (a || b) ≡ true → (a ≡ true) ⊎ (b ≡ true)
one_of true b e = inl refl
one_of false b e = inr e

listed_first : (name other : Name) (names : List Name) → is_listed name (other ∷ names) ≡ true → (name ≡ other) ⊎ (is_listed name names ≡ true)
listed_first name other names e = elim (one_of (same_name other name) (is_listed name names) e) as (λ _. (name ≡ other) ⊎ (is_listed name names ≡ true)) [
  | inl same ↦ inl (sym (name_eq other name same))
  | inr rest ↦ inr rest
]

listed_none : (name : Name) → is_listed name [] ≡ true → ⊥
listed_none name e = cc

module _ (tree after : Tree) (made : RoomMade tree marks_name (marks_folder ∷ []) [] after) where
  marks_folders : (folder : Name) → has_folder made.new folder ≡ true → (folder ≡ []) ⊎ (folder ≡ marks_folder)
  marks_folders folder at = elim (one_of (is_top folder) (is_listed folder (marks_folder ∷ [])) (sym (has_new_folder tree marks_name (marks_folder ∷ []) [] after made folder) ∙ at)) as (λ _. (folder ≡ []) ⊎ (folder ≡ marks_folder)) [
    | inl top ↦ inl (top_empty folder top)
    | inr listed ↦ elim (listed_first folder marks_folder [] listed) as (λ _. (folder ≡ []) ⊎ (folder ≡ marks_folder)) [
      | inl is ↦ inr is
      | inr none ↦ absurd (listed_none folder none)
    ]
  ]

  pub marks_made : IsMarksRoom made.new
  marks_made = record {
    named = made.named;
    folders_differ = new_folders_differ tree marks_name (marks_folder ∷ []) [] after made (refl, tt);
    paths_differ = made.differ tt;
    has_marks = has_new_folder tree marks_name (marks_folder ∷ []) [] after made marks_folder;
    folders = marks_folders;
    top_unlisted = ap (λ folders. is_listed [] folders) made.has_folders;
    files = λ path bytes at. absurd (listed_none path.file (each_new_file tree marks_name (marks_folder ∷ []) [] after made path bytes at).2);
  }

-- the room of marks has one more
pub marks_more : (mount : ℕ) (room new : Room) → 1 ≤ mount → mount < 2 ^ 32 → file_at new (mark_path mount) ≡ Some [] → SameButFile (mark_path mount) room new → (PathsDiffer room → PathsDiffer new) → IsMarksRoom room → IsMarksRoom new
marks_more mount room new some fits now others differ m = record {
  named = others.name ∙ m.named;
  folders_differ = folders_differ_kept (mark_path mount) room new others m.folders_differ;
  paths_differ = differ m.paths_differ;
  has_marks = folder_kept (mark_path mount) room new marks_folder others ∙ m.has_marks;
  folders = λ folder at. m.folders folder (sym (folder_kept (mark_path mount) room new folder others) ∙ at);
  top_unlisted = ap (λ folders. is_listed [] folders) others.folders ∙ m.top_unlisted;
  files = λ path bytes at. elim (each_file (mark_path mount) path room new bytes others at) as (λ _. IsMarkFile path bytes) [
    | inl same ↦
        let both : Some [] ≡ Some bytes = sym now ∙ ap (λ p. file_at new p) (sym same) ∙ at in
        let is : [] ≡ bytes = cc in
        (mount, some, fits, same, sym is)
    | inr old ↦ m.files path bytes old.1
  ];
}

-- the folders of a new container are those that one may have
new_folder_known : (folder : Name) → is_listed folder new_folders ≡ true → IsContainerFolder folder
new_folder_known folder e = elim (listed_first folder openhosts (metadata ∷ truncs ∷ flats ∷ []) e) as (λ _. IsContainerFolder folder) [
  | inl is ↦ inr (inl is)
  | inr e1 ↦ elim (listed_first folder metadata (truncs ∷ flats ∷ []) e1) as (λ _. IsContainerFolder folder) [
    | inl is ↦ inr (inr (inl is))
    | inr e2 ↦ elim (listed_first folder truncs (flats ∷ []) e2) as (λ _. IsContainerFolder folder) [
      | inl is ↦ inr (inr (inr (inl is)))
      | inr e3 ↦ elim (listed_first folder flats [] e3) as (λ _. IsContainerFolder folder) [
        | inl is ↦ inr (inr (inr (inr (inl is))))
        | inr e4 ↦ absurd (listed_none folder e4)
      ]
    ]
  ]
]

module _ (allowed : ℕ → Type 0) (tree : Tree) (name : Name) (after : Tree) (made : RoomMade tree name new_folders new_files after) where
  new_known : (folder : Name) → has_folder made.new folder ≡ true → IsContainerFolder folder
  new_known folder at = elim (one_of (is_top folder) (is_listed folder new_folders) (sym (has_new_folder tree name new_folders new_files after made folder) ∙ at)) as (λ _. IsContainerFolder folder) [
    | inl top ↦ inl (top_empty folder top)
    | inr listed ↦ new_folder_known folder listed
  ]

  new_file : (path : Path) (bytes : List ℕ) → file_at made.new path ≡ Some bytes → IsItemFile allowed made.new path bytes
  new_file path bytes at =
      let is = each_new_file tree name new_folders new_files after made path bytes at in
      let top : path.folder ≡ [] = top_empty path.folder is.1 in
      let file : path.file ≡ codes "access" = elim (listed_first path.file (codes "access") [] is.2) as (λ _. path.file ≡ codes "access") [
        | inl same ↦ same
        | inr none ↦ absurd (listed_none path.file none)
      ] in
      let access : IsAt access_path Access = record { is_item = record { in_range = tt; widths = tt }; printed = refl } in
      record {
        item = Access;
        is_at = subst (λ p. IsAt p Access) (sym (path_eq path access_path top file)) access;
        holds = is.0;
        id = tt;
        housed = has_new_folder tree name new_folders new_files after made path.folder ∙ ap (λ t. t || is_listed path.folder new_folders) is.1;
      }

  -- a room that was made under a logical name is a container
  pub container_made : IsLogicalName name → IsContainer allowed made.new
  container_made logical = record {
    named = subst IsLogicalName (sym made.named) logical;
    folders_differ = new_folders_differ tree name new_folders new_files after made (refl, (refl, (refl, (refl, tt))));
    paths_differ = made.differ (refl, tt);
    has_metadata = has_new_folder tree name new_folders new_files after made metadata;
    has_truncs = has_new_folder tree name new_folders new_files after made truncs;
    has_flats = has_new_folder tree name new_folders new_files after made flats;
    has_access = has_new_file tree name new_folders new_files after made (codes "access") refl;
    folders = new_known;
    top_unlisted = ap (λ folders. is_listed [] folders) made.has_folders;
    files = new_file;
  }
