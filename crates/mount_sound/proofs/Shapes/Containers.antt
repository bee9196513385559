-- A container stays one where a file or a folder of it has changed, and a new one is one.
use Rattle.std.proofs.Common.{◌≡◌, ℕ, Bool, true, false, ◌||◌, List, [], ◌∷◌, Some, None, refl, sym, ap, ◌∙◌, ◌⊎◌, inl, inr, subst, arith}
use Rattle.std.specs.Prelude.{codes}
use Rattle.std.proofs.lemmas.Bool.Decides.{nat_tests}
use Rattle.plfs_types.specs.Names.{IsLogicalName}
use Rattle.plfs_types.specs.declared.names.Path.{Path}
use Rattle.container_layout.specs.declared.items.Item.{Item}
use Rattle.container_layout.specs.declared.items.Item.TheVariants.{Access, OpenHost, Meta, Trunc, Flat, TmpFlat, Index, Log, Packed, TmpPacked}
use Rattle.container_layout.specs.Paths.{IsAt}
use Rattle.store_api.specs.declared.tree.Room.{Room}
use Rattle.store_api.specs.declared.tree.Tree.{Tree}
use Rattle.store_api.specs.Names.{same_name}
use Rattle.store_api.specs.Room.{is_top, has_folder}
use Rattle.store_laws.specs.Files.{file_at, AreTwo, SameButFile, SameButFolder}
use Rattle.store_laws.specs.Differ.{is_listed, NamesDiffer, FoldersDiffer, FilesDiffer, PathsDiffer}
use Rattle.store_laws.specs.Changes.{RoomMade, Moved, beside}
use Rattle.store_laws.proofs.Facts.{name_eq, name_cases, path_cases, path_eq, folder_kept, file_at_same, has_folder_same, each_file, file_kept, paths_differ_kept, each_folder, each_new_file, has_new_file, has_new_folder, new_folders_differ}
use Rattle.mount_model.specs.Paths.{Name, metadata, truncs, flats, new_folders, new_files, access_path}
use Rattle.container_layout.specs.Paths.{openhosts}
use Rattle.mount_sound.specs.Container.{IsContainerFolder, IsOfId, IsItemFile, IsContainer}
use Rattle.mount_sound.proofs.Shapes.Items.{access_is_at, access_holds}

-- ---- more ids

pub ids_wider : (few many : ℕ → Type 0) (item : Item) → ((id : ℕ) → few id → many id) → IsOfId few item → IsOfId many item
ids_wider few many (OpenHost host writer) more is = more writer is
ids_wider few many (Meta last bytes stamp host writer) more is = more writer is
ids_wider few many (Index host writer) more is = more writer is
ids_wider few many (Log host writer) more is = more writer is
ids_wider few many (Packed host writer) more is = more writer is
ids_wider few many Access more is = tt
ids_wider few many (Trunc stamp size) more is = tt
ids_wider few many (Flat id) more is = more id is
ids_wider few many (TmpFlat id) more is = more id is
ids_wider few many (TmpPacked host id) more is = more id is

-- a container stays one where more ids are allowed
pub container_wider : (few many : ℕ → Type 0) (room : Room) → ((id : ℕ) → few id → many id) → IsContainer few room → IsContainer many room
container_wider few many room more c = record {
  named = c.named;
  folders_differ = c.folders_differ;
  paths_differ = c.paths_differ;
  has_metadata = c.has_metadata;
  has_truncs = c.has_truncs;
  has_flats = c.has_flats;
  has_access = c.has_access;
  folders = c.folders;
  top_unlisted = c.top_unlisted;
  files = λ path bytes at.
      let f = c.files path bytes at in
      record { item = f.item; is_at = f.is_at; holds = f.holds; id = ids_wider few many f.item more f.id; housed = f.housed };
}

-- ---- a file

-- what a container has, but for its files, where one of them has changed
file_in_folder : (allowed : ℕ → Type 0) (room new : Room) (path : Path) (bytes : List ℕ) → has_folder new path.folder ≡ has_folder room path.folder → IsItemFile allowed room path bytes → IsItemFile allowed new path bytes
file_in_folder allowed room new path bytes same f = record { item = f.item; is_at = f.is_at; holds = f.holds; id = f.id; housed = same ∙ f.housed }

module _ (allowed : ℕ → Type 0) (room new : Room) (name : new.name ≡ room.name) (folders : new.folders ≡ room.folders) (c : IsContainer allowed room) where
  same_folder : (folder : Name) → has_folder new folder ≡ has_folder room folder
  same_folder folder = has_folder_same room new folder folders

  -- the files that a container may have in place of those that it has
  with_files : PathsDiffer new → file_at new access_path ≡ Some [] → ((other : Path) (bytes : List ℕ) → file_at new other ≡ Some bytes → IsItemFile allowed new other bytes) → IsContainer allowed new
  with_files differ access files = record {
    named = subst IsLogicalName (sym name) c.named;
    folders_differ = subst (λ folders. NamesDiffer folders) (sym folders) c.folders_differ;
    paths_differ = differ;
    has_metadata = same_folder metadata ∙ c.has_metadata;
    has_truncs = same_folder truncs ∙ c.has_truncs;
    has_flats = same_folder flats ∙ c.has_flats;
    has_access = access;
    folders = λ folder at. c.folders folder (sym (same_folder folder) ∙ at);
    top_unlisted = ap (λ folders. is_listed [] folders) folders ∙ c.top_unlisted;
    files = files;
  }

  -- a file that was there, and still is
  file_stays : (path : Path) (bytes : List ℕ) → file_at room path ≡ Some bytes → IsItemFile allowed new path bytes
  file_stays path bytes there = file_in_folder allowed room new path bytes (same_folder path.folder) (c.files path bytes there)

module _ (allowed : ℕ → Type 0) (room new : Room) (path : Path) (others : SameButFile path room new) (differ : PathsDiffer room → PathsDiffer new) (c : IsContainer allowed room) where
  -- the file of an item has come, or other bytes of it
  pub container_filed : (bytes : List ℕ) → IsItemFile allowed room path bytes → file_at new path ≡ Some bytes → IsContainer allowed new
  container_filed bytes is now =
      with_files allowed room new others.name others.folders c (differ c.paths_differ)
      (elim (path_cases access_path path) as (λ _. file_at new access_path ≡ Some []) [
        | inl same ↦ ap (λ p. file_at new p) same ∙ now ∙ ap (λ b. Some b) (access_holds path is.item bytes is.is_at is.holds same)
        | inr two ↦ others.files access_path two ∙ c.has_access
      ])
      (λ other stored there. elim (each_file path other room new stored others there) as (λ _. IsItemFile allowed new other stored) [
        | inl same ↦
            let both : Some bytes ≡ Some stored = sym now ∙ ap (λ p. file_at new p) (sym same) ∙ there in
            let equal : bytes ≡ stored = cc in
            let here : IsItemFile allowed new path bytes = file_in_folder allowed room new path bytes (folder_kept path room new path.folder others) is in
            subst (λ b. IsItemFile allowed new other b) equal (subst (λ p. IsItemFile allowed new p bytes) (sym same) here)
        | inr old ↦ file_stays allowed room new others.name others.folders c other stored old.1
      ])

  -- a file has gone
  pub container_removed : AreTwo access_path path → (PathsDiffer room → file_at new path ≡ None) → IsContainer allowed new
  container_removed apart gone =
      with_files allowed room new others.name others.folders c (differ c.paths_differ)
      (others.files access_path apart ∙ c.has_access)
      (λ other stored there. elim (each_file path other room new stored others there) as (λ _. IsItemFile allowed new other stored) [
        | inl same ↦
            let both : None ≡ Some stored = sym (gone c.paths_differ) ∙ ap (λ p. file_at new p) (sym same) ∙ there in
            absurd (cc)
        | inr old ↦ file_stays allowed room new others.name others.folders c other stored old.1
      ])

-- a file has got another name in its folder, and is that of another item there
pub container_moved : (allowed : ℕ → Type 0) (tree : Tree) (n : ℕ) (path : Path) (to : Name) (after : Tree) (m : Moved tree n path to after) → AreTwo access_path path → AreTwo access_path (beside path to)
    → (IsItemFile allowed m.room path m.bytes → IsItemFile allowed m.room (beside path to) m.bytes) → IsContainer allowed m.room → IsContainer allowed m.new
container_moved allowed tree n path to after m from_apart to_apart becomes c =
    with_files allowed m.room m.new m.same_name m.same_folders c (m.differ c.paths_differ)
    (m.others access_path from_apart to_apart ∙ c.has_access)
    (λ other stored there. elim (path_cases other (beside path to)) as (λ _. IsItemFile allowed m.new other stored) [
      | inl same ↦
          let both : Some m.bytes ≡ Some stored = sym (m.now c.paths_differ) ∙ ap (λ p. file_at m.new p) (sym same) ∙ there in
          let equal : m.bytes ≡ stored = cc in
          let here : IsItemFile allowed m.new (beside path to) m.bytes = file_in_folder allowed m.room m.new (beside path to) m.bytes (has_folder_same m.room m.new path.folder m.same_folders) (becomes (c.files path m.bytes m.there)) in
          subst (λ b. IsItemFile allowed m.new other b) equal (subst (λ p. IsItemFile allowed m.new p m.bytes) (sym same) here)
      | inr two ↦ elim (path_cases other path) as (λ _. IsItemFile allowed m.new other stored) [
        | inl same ↦
            let both : None ≡ Some stored = sym (m.gone c.paths_differ) ∙ ap (λ p. file_at m.new p) (sym same) ∙ there in
            absurd (cc)
        | inr apart ↦ file_stays allowed m.room m.new m.same_name m.same_folders c other stored (sym (m.others other apart two) ∙ there)
      ]
    ])

-- ---- a folder

has_still : (folder other : Name) (room new : Room) → SameButFolder folder room new → has_folder new folder ≡ true → has_folder room other ≡ true → has_folder new other ≡ true
has_still folder other room new others now there = elim (name_cases other folder) as (λ _. has_folder new other ≡ true) [
  | inl same ↦ ap (λ f. has_folder new f) same ∙ now
  | inr apart ↦ others.folders other apart ∙ there
]

-- a folder has come that a container may have
pub container_foldered : (allowed : ℕ → Type 0) (room new : Room) (folder : Name) → IsContainerFolder folder → has_folder new folder ≡ true → SameButFolder folder room new → (FoldersDiffer room → FoldersDiffer new) → is_listed [] new.folders ≡ false
    → IsContainer allowed room → IsContainer allowed new
container_foldered allowed room new folder known now others differ top c = record {
  named = subst IsLogicalName (sym others.name) c.named;
  folders_differ = differ c.folders_differ;
  paths_differ = paths_differ_kept folder room new others c.paths_differ;
  has_metadata = has_still folder metadata room new others now c.has_metadata;
  has_truncs = has_still folder truncs room new others now c.has_truncs;
  has_flats = has_still folder flats room new others now c.has_flats;
  has_access = file_kept folder room new access_path others ∙ c.has_access;
  folders = λ other at. elim (each_folder folder other room new others at) as (λ _. IsContainerFolder other) [
    | inl same ↦ subst IsContainerFolder (sym same) known
    | inr old ↦ c.folders other old.1
  ];
  top_unlisted = top;
  files = λ path bytes at.
      let f = c.files path bytes (sym (file_kept folder room new path others) ∙ at) in
      record { item = f.item; is_at = f.is_at; holds = f.holds; id = f.id; housed = has_still folder path.folder room new others now f.housed };
}

-- the folder of who has the container open has gone, in which no file was
pub container_closed : (allowed : ℕ → Type 0) (room new : Room) → SameButFolder openhosts room new → (FoldersDiffer room → FoldersDiffer new) → ((name : Name) → file_at room (record { folder = openhosts; file = name }) ≡ None) → is_listed [] new.folders ≡ false
    → IsContainer allowed room → IsContainer allowed new
container_closed allowed room new others differ empty top c = record {
  named = subst IsLogicalName (sym others.name) c.named;
  folders_differ = differ c.folders_differ;
  paths_differ = paths_differ_kept openhosts room new others c.paths_differ;
  has_metadata = others.folders metadata (λ same. cc) ∙ c.has_metadata;
  has_truncs = others.folders truncs (λ same. cc) ∙ c.has_truncs;
  has_flats = others.folders flats (λ same. cc) ∙ c.has_flats;
  has_access = file_kept openhosts room new access_path others ∙ c.has_access;
  folders = λ other at. elim (each_folder openhosts other room new others at) as (λ _. IsContainerFolder other) [
    | inl same ↦ inr (inl same)
    | inr old ↦ c.folders other old.1
  ];
  top_unlisted = top;
  files = λ path bytes at.
      let was : file_at room path ≡ Some bytes = sym (file_kept openhosts room new path others) ∙ at in
      let f = c.files path bytes was in
      record {
        item = f.item;
        is_at = f.is_at;
        holds = f.holds;
        id = f.id;
        housed = elim (name_cases path.folder openhosts) as (λ _. has_folder new path.folder ≡ true) [
          | inl same ↦
              let none : file_at room path ≡ None = ap (λ p. file_at room p) (path_eq path (record { folder = openhosts; file = path.file }) same refl) ∙ empty path.file in
              let both : None ≡ Some bytes = sym none ∙ was in
              absurd (cc)
          | inr apart ↦ others.folders path.folder apart ∙ f.housed
        ];
      };
}

-- ---- another name

-- a container has got another logical name
pub container_renamed : (allowed : ℕ → Type 0) (room new : Room) → IsLogicalName new.name → new.folders ≡ room.folders → new.files ≡ room.files → IsContainer allowed room → IsContainer allowed new
container_renamed allowed room new logical folders files c = record {
  named = logical;
  folders_differ = subst (λ names. NamesDiffer names) (sym folders) c.folders_differ;
  paths_differ = subst (λ stored. FilesDiffer stored) (sym files) c.paths_differ;
  has_metadata = has_folder_same room new metadata folders ∙ c.has_metadata;
  has_truncs = has_folder_same room new truncs folders ∙ c.has_truncs;
  has_flats = has_folder_same room new flats folders ∙ c.has_flats;
  has_access = file_at_same room new access_path files ∙ c.has_access;
  folders = λ folder at. c.folders folder (sym (has_folder_same room new folder folders) ∙ at);
  top_unlisted = ap (λ names. is_listed [] names) folders ∙ c.top_unlisted;
  files = λ path bytes at. file_in_folder allowed room new path bytes (has_folder_same room new path.folder folders) (c.files path bytes (sym (file_at_same room new path files) ∙ at));
}

-- ---- a new room

pub is_top_empty : (folder : Name) → is_top folder ≡ true → folder ≡ []
is_top_empty [] t = refl
is_top_empty (x ∷ xs) t = absurd (grind (arith, nat_tests))

pub one_of : (a b : Bool) → (a || b) ≡ true → (a ≡ true) ⊎ (b ≡ true)
one_of true b e = inl refl
one_of false b e = inr e

pub listed_first : (name other : Name) (names : List Name) → is_listed name (other ∷ names) ≡ true → (name ≡ other) ⊎ (is_listed name names ≡ true)
listed_first name other names e = elim (one_of (same_name other name) (is_listed name names) e) as (λ _. (name ≡ other) ⊎ (is_listed name names ≡ true)) [
  | inl same ↦ inl (sym (name_eq other name same))
  | inr rest ↦ inr rest
]

pub listed_none : (name : Name) → is_listed name [] ≡ true → ⊥
listed_none name e = cc

-- the folders of a new container are those that one may have
new_folder_known : (folder : Name) → is_listed folder new_folders ≡ true → IsContainerFolder folder
new_folder_known folder e = elim (listed_first folder openhosts (metadata ∷ truncs ∷ flats ∷ []) e) as (λ _. IsContainerFolder folder) [
  | inl is ↦ inr (inl is)
  | inr e1 ↦ elim (listed_first folder metadata (truncs ∷ flats ∷ []) e1) as (λ _. IsContainerFolder folder) [
    | inl is ↦ inr (inr (inl is))
    | inr e2 ↦ elim (listed_first folder truncs (flats ∷ []) e2) as (λ _. IsContainerFolder folder) [
      | inl is ↦ inr (inr (inr (inl is)))
      | inr e3 ↦ elim (listed_first folder flats [] e3) as (λ _. IsContainerFolder folder) [
        | inl is ↦ inr (inr (inr (inr (inl is))))
        | inr e4 ↦ absurd (listed_none folder e4)
      ]
    ]
  ]
]

module _ (allowed : ℕ → Type 0) (tree : Tree) (name : Name) (after : Tree) (made : RoomMade tree name new_folders new_files after) where
  new_known : (folder : Name) → has_folder made.new folder ≡ true → IsContainerFolder folder
  new_known folder at = elim (one_of (is_top folder) (is_listed folder new_folders) (sym (has_new_folder tree name new_folders new_files after made folder) ∙ at)) as (λ _. IsContainerFolder folder) [
    | inl top ↦ inl (is_top_empty folder top)
    | inr listed ↦ new_folder_known folder listed
  ]

  new_file : (path : Path) (bytes : List ℕ) → file_at made.new path ≡ Some bytes → IsItemFile allowed made.new path bytes
  new_file path bytes at =
      let is = each_new_file tree name new_folders new_files after made path bytes at in
      let top : path.folder ≡ [] = is_top_empty path.folder is.1 in
      let file : path.file ≡ codes "access" = elim (listed_first path.file (codes "access") [] is.2) as (λ _. path.file ≡ codes "access") [
        | inl same ↦ same
        | inr none ↦ absurd (listed_none path.file none)
      ] in
      let same : path ≡ access_path = path_eq path access_path top file in
      record {
        item = Access;
        is_at = subst (λ p. IsAt p Access) (sym same) access_is_at;
        holds = is.0;
        id = tt;
        housed = has_new_folder tree name new_folders new_files after made path.folder ∙ ap (λ t. t || is_listed path.folder new_folders) is.1;
      }

  -- a room that was made under a logical name is a container
  pub container_made : IsLogicalName name → IsContainer allowed made.new
  container_made logical = record {
    named = subst IsLogicalName (sym made.named) logical;
    folders_differ = new_folders_differ tree name new_folders new_files after made (refl, (refl, (refl, (refl, tt))));
    paths_differ = made.differ (refl, tt);
    has_metadata = has_new_folder tree name new_folders new_files after made metadata;
    has_truncs = has_new_folder tree name new_folders new_files after made truncs;
    has_flats = has_new_folder tree name new_folders new_files after made flats;
    has_access = has_new_file tree name new_folders new_files after made (codes "access") refl;
    folders = new_known;
    top_unlisted = ap (λ folders. is_listed [] folders) made.has_folders;
    files = new_file;
  }
