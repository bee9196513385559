-- It can't be that no complaint is right where not all holds that is checked.
use Rattle.std.proofs.Common.{◌≡◌, ℕ, zero, suc, ◌+◌, ◌*◌, ◌≤◌, ◌<◌, ◌^◌, Bool, true, false, ◌||◌, List, [], ◌∷◌, length, take, Option, Some, None, refl, ap, sym, ◌∙◌, subst, inl, inr, ◌⊎◌, arith}
use Rattle.std.specs.Prelude.{slice_get, ◌≢◌}
use Rattle.std.specs.List.{AllByRecursion}
use Rattle.std.proofs.lemmas.Bool.{cases_lt, cases_eq}
use Rattle.std.proofs.lemmas.Bool.Decides.{nat_tests}
use Rattle.std.proofs.lemmas.List.{take_all}
use Rattle.plfs_types.specs.declared.limits.TheConstants.{ENTRY_SIZE, MAX_LOG}
use Rattle.plfs_types.specs.declared.entries.Entry.{Entry}
use Rattle.plfs_types.specs.declared.names.Path.{Path}
use Rattle.plfs_types.specs.Names.{IsLogicalName}
use Rattle.index_entry.specs.Spelling.{entry_in}
use Rattle.index_entry.proofs.Facts.{length-records_in}
use Rattle.container_layout.specs.declared.items.Item.{Item}
use Rattle.container_layout.specs.declared.items.Item.TheVariants.{Access, Index, Meta, Trunc}
use Rattle.container_layout.specs.Paths.{path_of}
use Rattle.container_layout.proofs.Facts.{one_item}
use Rattle.store_api.specs.declared.tree.Room.{Room}
use Rattle.store_api.specs.declared.tree.Tree.{Tree}
use Rattle.store_api.specs.Room.{has_folder, is_top}
use Rattle.store_laws.specs.Files.{file_at, kept_at}
use Rattle.store_laws.specs.Differ.{is_listed, is_there}
use Rattle.mount_model.specs.Paths.{Name, open_path, index_path, installed_item, installed_of, access_path, metadata, truncs, flats}
use Rattle.store_api.specs.Names.{marks_folder}
use Rattle.store_api.specs.Names.{marks_name}
use Rattle.mount_model.specs.declared.row.Making.{Making}
use Rattle.mount_model.specs.declared.row.Making.TheVariants as making
use Rattle.mount_sound.specs.Container.{IsContainer, IsItemFile, MayHold, IsOfId}
use Rattle.mount_sound.specs.Marks.{IsMarkFile, IsMarksRoom, IsOfMark}
use Rattle.mount_sound.specs.Entries.{AreEntriesOf, logged, last_stamp, greatest_end}
use Rattle.mount_sound.specs.Dropping.{bytes_of, log_bytes, IsKeptWhole, IsToldOf, AreBeside}
use Rattle.mount_sound.specs.Flats.{IsRightFor}
use Rattle.mount_sound.specs.Items.{HasItem, HasMeta, HasItemOf}
use Rattle.mount_sound.specs.Landed.{whole}
use Rattle.mount_sound.specs.Sound.{TruncatesDiffer}
use Rattle.mount_sound.specs.There.{entries_there, landed_entries, landed_in}
use Rattle.tree_laws.specs.Checked.{whole_entries, IsCheckedDropping, IsCheckedWriter, IsCheckedRoom, IsCheckedTree}
use Rattle.tree_laws.specs.Complaints.{Complaint, room_name, no_folder, no_access, foreign_folder, foreign, no_mark, filled, unmarked, two_hosts, entry, long_log, unaccounted, untrue, unsettled, between, two_truncates, wrong_index, unkept, IsBroken, IsAllowed}
use Rattle.tree_laws.specs.Listable.{IsListable}
use Rattle.tree_laws.proofs.Searched.{owner_fits}
use Rattle.tree_laws.proofs.Unrefuted.{Unrefuted, both, implied, each_below, of_some, each_item, each_name, each_path, is_one}

unfalse : (b : Bool) → (b ≡ false → ⊥) → b ≡ true
unfalse true wrong = refl
unfalse false wrong = absurd (wrong refl)

-- only the empty name is the top
top_is_empty : (folder : Name) → is_top folder ≡ true → folder ≡ []
top_is_empty [] e = refl
top_is_empty (x ∷ xs) e = absurd (grind (arith, nat_tests))

-- ---- of numbers and entries

even_or_not : (a b : ℕ) → (a ≢ b → ⊥) → a ≡ b
even_or_not a b same = elim (cases_eq a b) [
  | inl e ↦ e
  | inr apart ↦ absurd (same apart)
]

-- a property of entries that is decided of each is had by all, or not
all_or_not : (P : Entry → Type 0) → ((e : Entry) → P e ⊎ (P e → ⊥)) → (es : List Entry) → AllByRecursion P es ⊎ (AllByRecursion P es → ⊥)
all_or_not P each [] = inl tt
all_or_not P each (e ∷ es) = elim (each e) [
  | inr lacks ↦ inr (λ all. lacks all.0)
  | inl has ↦ elim (all_or_not P each es) [
    | inl rest ↦ inl (has, rest)
    | inr none ↦ inr (λ all. none all.1)
  ]
]

below_or_not : (a b : ℕ) → (a < b) ⊎ (a < b → ⊥)
below_or_not a b = elim (cases_lt a b) [
  | inl less ↦ inl less
  | inr least ↦ inr (λ less. omega (arith, less, least))
]

beside_or_not : (stamp : ℕ) (es : List Entry) → AreBeside stamp es ⊎ (AreBeside stamp es → ⊥)
beside_or_not stamp es = elim (all_or_not (λ (e : Entry). e.stamp < stamp) (λ e. below_or_not e.stamp stamp) es) [
  | inl before ↦ inl (inl before)
  | inr not_before ↦ elim (all_or_not (λ (e : Entry). stamp < e.stamp) (λ e. below_or_not stamp e.stamp) es) [
    | inl behind ↦ inl (inr behind)
    | inr not_behind ↦ inr (λ beside. elim beside [
      | inl x ↦ not_before x
      | inr y ↦ not_behind y
    ])
  ]
]

-- entries of which none is the first that may not follow are in order
in_order : (writer : ℕ) (es : List Entry) → ((k : ℕ) → k < length es → AreEntriesOf writer 0 0 (take k es) → (AreEntriesOf writer 0 0 (take (k + 1) es) → ⊥) → ⊥) → Unrefuted (AreEntriesOf writer 0 0 es)
in_order writer es none refuted = first (length es) (omega arith) (λ all. refuted (subst (λ (l : List Entry). AreEntriesOf writer 0 0 l) (take_all (length es) es (omega arith)) all))
  where
    first : (k : ℕ) → k ≤ length es → Unrefuted (AreEntriesOf writer 0 0 (take k es))
    first zero fits wrong = wrong tt
    first (suc k) fits wrong = first k (omega arith) (λ before. none k (omega arith) before (λ next. wrong (subst (λ (n : ℕ). AreEntriesOf writer 0 0 (take n es)) (one_more k) next)))
      where
        one_more : (n : ℕ) → n + 1 ≡ suc n
        one_more n = omega arith

-- ---- of a tree in which no complaint is right

module _ (tree : Tree) (listable : IsListable tree) (none : (complaint : Complaint) → IsBroken tree complaint → ⊥) where
  module _ (number : ℕ) (room : Room) (there : slice_get tree.rooms number ≡ Some room) where
    -- the shape

    abbrev IsFineFolder : Name → Type 0
    IsFineFolder folder = has_folder room folder ≡ true → IsAllowed room.name folder

    folder_allowed : Unrefuted ((folder : Name) → has_folder room folder ≡ true → IsAllowed room.name folder)
    folder_allowed refuted =
        each_name IsFineFolder room.folders of_each (λ listed. of_each [] (λ top. refuted (λ folder has. at_top folder (is_top folder) refl top listed has has)))
      where
        of_each : (folder : Name) → Unrefuted (IsFineFolder folder)
        of_each folder = implied (λ has wrong. none (foreign_folder room.name folder) (number, room, there, refl, (has, wrong)))

        at_top : (folder : Name) (b : Bool) → is_top folder ≡ b → IsFineFolder [] → ((name : Name) → is_listed name room.folders ≡ true → IsFineFolder name) → (b || is_listed folder room.folders) ≡ true → IsFineFolder folder
        at_top folder true e top listed has = subst IsFineFolder (sym (top_is_empty folder e)) top
        at_top folder false e top listed has = listed folder has

    abbrev IsFineMark : Path → Type 0
    IsFineMark path = (bytes : List ℕ) → file_at room path ≡ Some bytes → IsMarkFile path bytes

    marks_room : room.name ≡ marks_name → Unrefuted (IsMarksRoom room)
    marks_room named refuted =
        folder_allowed (λ folders. marks_files (λ files. refuted (record {
          named = named;
          folders_differ = (listable.orderly.rooms number room there).folders;
          paths_differ = (listable.orderly.rooms number room there).paths;
          has_marks = unfalse (has_folder room marks_folder) (λ e. none (no_folder room.name marks_folder) (number, room, there, refl, (e, inl (named, refl))));
          folders = λ folder has. elim (folders folder has) [
            | inl is ↦ is.1
            | inr other ↦ absurd (other.0 named)
          ];
          top_unlisted = listable.tops_unlisted number room there;
          files = λ path bytes at. files path (is_one room path bytes at) bytes at;
        })))
      where
        marks_files : Unrefuted ((path : Path) → is_there path.folder path.file room.files ≡ true → IsFineMark path)
        marks_files = each_path IsFineMark room.files (λ path. of_some (λ bytes. IsMarkFile path bytes) (file_at room path) (λ bytes at wrong. none (no_mark path) (number, room, there, named, (bytes, at, wrong))))

    item_file : room.name ≢ marks_name → (path : Path) (bytes : List ℕ) → file_at room path ≡ Some bytes → Unrefuted (IsItemFile (IsOfMark tree) room path bytes)
    item_file other path bytes at refuted = none (foreign room.name path) (
      other,
      (
        number,
        room,
        there,
        refl,
        (
          bytes,
          at,
          λ item is. (
              (λ (holds : Unrefuted (MayHold item bytes)) (id : Unrefuted (IsOfId (IsOfMark tree) item)). holds (λ h. id (λ i. refuted (record {
                item = item;
                is_at = is;
                holds = h;
                id = i;
                housed = (listable.orderly.rooms number room there).housed path bytes at;
              }))))
              (λ wrong. none (filled room.name path) (other, (number, room, there, refl, (bytes, item, at, is, wrong))))
              (λ wrong. none (unmarked room.name path) (other, (number, room, there, refl, (bytes, item, at, is, wrong))))),
        ),
      ),
    )

    abbrev IsFineFile : Path → Type 0
    IsFineFile path = (bytes : List ℕ) → file_at room path ≡ Some bytes → IsItemFile (IsOfMark tree) room path bytes

    container : room.name ≢ marks_name → Unrefuted (IsContainer (IsOfMark tree) room)
    container other refuted =
        folder_allowed (λ folders. item_files (λ files. (λ (wrong : IsLogicalName room.name → ⊥). none (room_name room.name) (other, (number, room, there, refl, wrong))) (λ named. refuted (record {
          named = named;
          folders_differ = (listable.orderly.rooms number room there).folders;
          paths_differ = (listable.orderly.rooms number room there).paths;
          has_metadata = needed metadata (inl refl);
          has_truncs = needed truncs (inr (inl refl));
          has_flats = needed flats (inr (inr refl));
          has_access = access (file_at room access_path) refl (λ bytes at. files access_path (is_one room access_path bytes at) bytes at);
          folders = λ folder has. elim (folders folder has) [
            | inl is ↦ absurd (other is.0)
            | inr allowed ↦ allowed.1
          ];
          top_unlisted = listable.tops_unlisted number room there;
          files = λ path bytes at. files path (is_one room path bytes at) bytes at;
        }))))
      where
        item_files : Unrefuted ((path : Path) → is_there path.folder path.file room.files ≡ true → IsFineFile path)
        item_files = each_path IsFineFile room.files (λ path. of_some (λ bytes. IsItemFile (IsOfMark tree) room path bytes) (file_at room path) (λ bytes at. item_file other path bytes at))

        needed : (folder : Name) → (folder ≡ metadata) ⊎ (folder ≡ truncs) ⊎ (folder ≡ flats) → has_folder room folder ≡ true
        needed folder is = unfalse (has_folder room folder) (λ e. none (no_folder room.name folder) (number, room, there, refl, (e, inr (other, is))))

        access : (found : Option (List ℕ)) → file_at room access_path ≡ found → ((bytes : List ℕ) → file_at room access_path ≡ Some bytes → IsItemFile (IsOfMark tree) room access_path bytes) → file_at room access_path ≡ Some []
        access None e file = absurd (none (no_access room.name) (other, (number, room, there, refl, e)))
        access (Some bytes) e file =
            let is = file bytes e in
            let same : is.item ≡ Access = one_item access_path is.item Access is.is_at (record { is_item = record { in_range = tt; widths = tt }; printed = refl }) in
            let empty : bytes ≡ [] = subst (λ (i : Item). MayHold i bytes) same is.holds in
            e ∙ ap Some empty

    shaped : Unrefuted (IsMarksRoom room ⊎ IsContainer (IsOfMark tree) room)
    shaped refuted = container (λ named. marks_room named (λ marks. refuted (inl marks))) (λ is. refuted (inr is))

    -- a writer

    module _ (host writer : ℕ) (has : HasItemOf room host writer) where
      its_index : (bytes : List ℕ) → file_at room (index_path host writer) ≡ Some bytes → HasItem room (Index host writer) bytes
      its_index bytes at = record { is_item = record { in_range = tt; widths = owner_fits room host writer has }; there = at }

      path : Path
      path = index_path host writer

      dropping_of : (found : Option (List ℕ)) → file_at room (index_path host writer) ≡ found → Unrefuted (IsCheckedDropping writer (bytes_of found))
      dropping_of None e refuted = refuted (record { in_order = tt; small = omega arith })
      dropping_of (Some bytes) e refuted =
          in_order writer (whole_entries bytes) (λ k within before wrong. none (entry room.name (index_path host writer) (ENTRY_SIZE * k))
          (number, room, there, refl, (host, writer, bytes, refl, its_index bytes e, (k, refl, within_whole k bytes within, before, wrong)))) (λ ordered. refuted (record {
            in_order = ordered;
            small = small;
          }))
        where
          within_whole : (k : ℕ) (index : List ℕ) → k < length (whole_entries index) → k < whole index
          within_whole k index within = let long : length (whole_entries index) ≡ whole index = length-records_in entry_in ENTRY_SIZE (whole index) index in omega (arith, within, long)

          small : logged (whole_entries bytes) ≤ MAX_LOG
          small = elim (cases_lt MAX_LOG (logged (whole_entries bytes))) [
            | inl past ↦ absurd (none (long_log room.name (index_path host writer)) (number, room, there, refl, (host, writer, bytes, refl, its_index bytes e, past)))
            | inr fits ↦ fits
          ]

      abbrev es : List Entry
      es = landed_entries room host writer

      no_entries : file_at room (index_path host writer) ≡ None → es ≡ []
      no_entries e = ap (λ (found : Option (List ℕ)). entries_there (bytes_of found) (log_bytes room host writer)) e

      left : (found : Option (List ℕ)) → file_at room (index_path host writer) ≡ found → file_at room (open_path host writer) ≡ None → 1 ≤ landed_in room host writer → Unrefuted (HasMeta room host writer)
      left None e gone some refuted = let nothing : landed_in room host writer ≡ 0 = ap (λ (l : List Entry). length l) (no_entries e) in omega (arith, some, nothing)
      left (Some bytes) e gone some refuted = none (unaccounted room.name (index_path host writer)) (number, room, there, refl, (host, writer, bytes, refl, its_index bytes e, (gone, some, refuted)))

      told : (last bytes stamp : ℕ) (content : List ℕ) → HasItem room (Meta last bytes stamp host writer) content → IsToldOf last bytes stamp es
      told last bytes stamp content meta = record {
        end = even_or_not last (greatest_end es) (λ apart. wrong (λ t. apart t.end));
        sum = even_or_not bytes (logged es) (λ apart. wrong (λ t. apart t.sum));
        latest = even_or_not stamp (last_stamp 0 es) (λ apart. wrong (λ t. apart t.latest));
      }
        where
          wrong : (IsToldOf last bytes stamp es → ⊥) → ⊥
          wrong false_told = none (untrue room.name (path_of (Meta last bytes stamp host writer))) (number, room, there, refl, (last, bytes, stamp, host, writer, content, refl, meta, false_told))

      settled : (found : Option (List ℕ)) → file_at room (index_path host writer) ≡ found → HasMeta room host writer → Unrefuted (IsKeptWhole room host writer es)
      settled None e meta refuted = refuted (subst (λ (l : List Entry). IsKeptWhole room host writer l) (sym (no_entries e)) (record { index = ap bytes_of e; index_kept = omega arith; log_kept = omega arith }))
      settled (Some bytes) e meta refuted = none (unsettled room.name (index_path host writer)) (number, room, there, refl, (host, writer, bytes, refl, its_index bytes e, (meta, refuted)))

      beside : (found : Option (List ℕ)) → file_at room (index_path host writer) ≡ found → (stamp size : ℕ) (content : List ℕ) → HasItem room (Trunc stamp size) content → AreBeside stamp es
      beside None e stamp size content trunc = subst (λ (l : List Entry). AreBeside stamp l) (sym (no_entries e)) (inl tt)
      beside (Some bytes) e stamp size content trunc = elim (beside_or_not stamp es) [
        | inl are ↦ are
        | inr wrong ↦ absurd (none (between room.name (index_path host writer) stamp) (number, room, there, refl, (host, writer, bytes, refl, its_index bytes e, (size, content, trunc, wrong))))
      ]

      its_writer : Unrefuted (IsCheckedWriter room host writer)
      its_writer refuted =
          dropping_of (file_at room (index_path host writer)) refl (λ dropping.
          implied (λ gone. implied (λ some. left (file_at room (index_path host writer)) refl gone some)) (λ leaves.
          implied (λ meta. settled (file_at room (index_path host writer)) refl meta) (λ settles. refuted (record {
            alone = λ other has_other. even_or_not other host (λ apart. none (two_hosts room.name writer) (number, room, there, refl, (host, other, has, has_other, apart)));
            dropping = dropping;
            left = leaves;
            told = told;
            settled = settles;
            beside = beside (file_at room (index_path host writer)) refl;
          }))))

    -- installed indices

    abbrev IsFine : Making → ℕ → Type 0
    IsFine makes id = (bytes : List ℕ) → HasItem room (installed_item makes id) bytes → IsRightFor room makes bytes × (length bytes ≤ kept_at room (installed_of makes id))

    installed : (makes : Making) (id : ℕ) → Unrefuted (IsFine makes id)
    installed makes id refuted = of_some (λ bytes. HasItem room (installed_item makes id) bytes → IsRightFor room makes bytes × (length bytes ≤ kept_at room (installed_of makes id)))
        (file_at room (installed_of makes id)) (λ bytes at. implied (λ has. both (right bytes has) (λ wrong. wrong (kept bytes has))))
        (λ fine. refuted (λ bytes has. fine bytes has.there has))
      where
        right : (bytes : List ℕ) → HasItem room (installed_item makes id) bytes → Unrefuted (IsRightFor room makes bytes)
        right bytes has wrong = none (wrong_index room.name (installed_of makes id)) (number, room, there, refl, (makes, id, bytes, refl, has, wrong))

        kept : (bytes : List ℕ) → HasItem room (installed_item makes id) bytes → length bytes ≤ kept_at room (installed_of makes id)
        kept bytes has = elim (cases_lt (kept_at room (installed_of makes id)) (length bytes)) [
          | inl past ↦ absurd (none (unkept room.name (installed_of makes id)) (number, room, there, refl, (makes, id, bytes, refl, has, past)))
          | inr fits ↦ fits
        ]

    all_installed : Unrefuted ((makes : Making) (id : ℕ) → IsFine makes id)
    all_installed refuted =
        each_below (λ id. IsFine making.Flat id) (2 ^ 64) (λ id less. installed making.Flat id) (λ flats_fine.
        each_below (λ host. (writer : ℕ) → writer < 2 ^ 64 → IsFine (making.Pack host writer) 0) (2 ^ 32) (λ host less. each_below (λ writer. IsFine (making.Pack host writer) 0) (2 ^ 64) (λ writer small. installed (making.Pack host writer) 0)) (λ packs_fine.
        refuted (fine flats_fine packs_fine)))
      where
        fine : ((id : ℕ) → id < 2 ^ 64 → IsFine making.Flat id) → ((host : ℕ) → host < 2 ^ 32 → (writer : ℕ) → writer < 2 ^ 64 → IsFine (making.Pack host writer) 0) → (makes : Making) (id : ℕ) → IsFine makes id
        fine flats_fine packs_fine making.Flat id bytes has = flats_fine id has.is_item.widths bytes has
        fine flats_fine packs_fine (making.Pack host writer) id bytes has = packs_fine host has.is_item.widths.0 writer has.is_item.widths.1 bytes has

    -- all of a room

    abbrev IsFineWriter : ℕ → ℕ → Type 0
    IsFineWriter host writer = HasItemOf room host writer → IsCheckedWriter room host writer

    all_writers : Unrefuted ((host writer : ℕ) → HasItemOf room host writer → IsCheckedWriter room host writer)
    all_writers refuted =
        each_below (λ host. (writer : ℕ) → writer < 2 ^ 64 → IsFineWriter host writer) (2 ^ 32) (λ host less. each_below (IsFineWriter host) (2 ^ 64) (λ writer small. implied (λ has. its_writer host writer has)))
        (λ all. refuted (λ host writer has. all host (owner_fits room host writer has).0 writer (owner_fits room host writer has).1 has))

    truncates : TruncatesDiffer room
    truncates stamp size other a b has has_other = even_or_not size other (λ apart. none (two_truncates room.name stamp) (number, room, there, refl, (size, other, a, b, has, has_other, apart)))

    checked_room : Unrefuted (IsCheckedRoom room)
    checked_room refuted = all_writers (λ writers. all_installed (λ fine. refuted (record { writers = writers; truncates = truncates; flats = fine })))

  -- all of the tree
  pub unrefuted_tree : Unrefuted (IsCheckedTree tree)
  unrefuted_tree refuted =
      each_item (λ number room. IsMarksRoom room ⊎ IsContainer (IsOfMark tree) room) tree.rooms (λ number room there. shaped number room there) (λ shapes.
      each_item (λ number room. IsCheckedRoom room) tree.rooms (λ number room there. checked_room number room there) (λ rooms. refuted (record {
        shaped = record { rooms_differ = listable.orderly.rooms_differ; rooms = shapes };
        rooms = rooms;
      })))
