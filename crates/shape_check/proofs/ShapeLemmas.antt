-- What is shown of the shape of a container.
use Rattle.std.proofs.Common.{◌≡◌, ℕ, suc, ◌+◌, ◌≤◌, ◌⊎◌, inl, inr, Bool, true, false, ◌||◌, List, [], ◌∷◌, ◌++◌, length, take, map, Option, Some, None, refl, ap, sym, ◌∙◌, subst, arith}
use Rattle.std.specs.Prelude.{slice_get, is_some, ◌&&◌, IfErr, IfOk, OnOk, Result, Ok, Err, ◌≢◌}
use Rattle.std.proofs.lemmas.List.{take_all}
use Rattle.plfs_types.specs.declared.names.Path.{Path}
use Rattle.plfs_types.specs.Names.{IsLogicalName}
use Rattle.container_layout.specs.declared.items.Item.{Item}
use Rattle.container_layout.specs.declared.items.Item.TheVariants.{Access}
use Rattle.container_layout.proofs.Facts.{one_item}
use Rattle.store_api.specs.declared.tree.Room.{Room}
use Rattle.store_api.specs.declared.tree.Tree.{Tree}
use Rattle.store_api.specs.Acts.{Stored}
use Rattle.store_api.specs.Room.{has_folder, is_top}
use Rattle.store_laws.specs.Files.{file_at}
use Rattle.store_laws.specs.Differ.{is_listed}
use Rattle.store_laws.specs.There.{AreNamesOf}
use Rattle.store_laws.proofs.Facts.{path_eq}
use Rattle.mount_model.specs.Paths.{Name, metadata, truncs, flats, access_path}
use Rattle.store_api.specs.Names.{marks_name}
use Rattle.mount_sound.specs.Container.{IsContainerFolder, IsItemFile, MayHold}
use Rattle.mount_sound.specs.Marks.{IsOfMark}
use Rattle.tree_laws.specs.Complaints as complaint
use Rattle.shape_check.specs.declared.files.Place.{Place}
use Rattle.shape_check.specs.declared.finding.Finding.{Finding}
use Rattle.shape_check.specs.declared.finding.Finding.TheVariants.{Broken}
use Rattle.shape_check.specs.declared.finding.Complaint.TheVariants as variant
use Rattle.shape_check.specs.Files.{IsPlaced, OfPlace, IsFineItem, IsForeignFolder}
use Rattle.shape_check.specs.Places.{ShowsNames}
use Rattle.shape_check.specs.Rightness.{Fails}
use Rattle.shape_check.specs.Seeing.{IsSeen, IsLookedAt, HasRoom}
use Rattle.shape_check.specs.Shape.{in_folder, ArePathsInOrder, IsOneOf, EachAt, Adds, IsFolderOf, IsTopOf, HasWalked, AreWalked, HasAccess, HasNeeded, HasShape}
use Rattle.shape_check.specs.Told.{TellsFolder, TellsLength}
use Rattle.shape_check.proofs.FileLemmas.{no_place}
use Rattle.shape_check.proofs.ListLemmas.{in_front, behind, one_of_both, name_has_path, path_has_name}
use Rattle.shape_check.proofs.LoopLemmas.{fails_on, listed_more, no_memory}
use Rattle.shape_check.proofs.MarkLemmas.{some_entry, folder_entry, top_is_empty}
use Rattle.shape_check.proofs.OrderLemmas.{folder_front, folder_last, folder_sorted, none_sorted, paths_sorted}
use Rattle.shape_check.proofs.Seen.{seen_on}

abbrev pub ShowsFolder : Stored → ℕ → Name → Option (List Name) → Type 0
ShowsFolder old number folder found = (tree : Tree) (held : Room) → IsSeen old tree → slice_get tree.rooms number ≡ Some held → TellsFolder held folder found

-- ---- what every container has

pub folder_there : (place : Place) (old : Stored) (folder : Name) (names : List Name) → ShowsFolder old place.number folder (Some names) → OfPlace (λ tree room. has_folder room folder ≡ true) place old
folder_there place old folder names shows = λ tree seen at. (shows tree at.room seen at.there).0

pub folder_missing : (place : Place) (old new : Stored) (folder : Name) → (folder ≡ metadata) ⊎ (folder ≡ truncs) ⊎ (folder ≡ flats) → ShowsFolder old place.number folder None
    → Fails (IsPlaced place) old new (Broken (variant.NoFolder place.name folder))
folder_missing place old new folder is shows = record {
  cause = λ e. absurd (cc);
  right = λ tree seen at. (place.number, at.room, at.there, at.named, (shows tree at.room seen at.there, inr (at.other, is)));
}

abbrev ShowsLength : Stored → ℕ → Path → Option ℕ → Type 0
ShowsLength old number path found = (tree : Tree) (held : Room) → IsSeen old tree → slice_get tree.rooms number ≡ Some held → TellsLength held path found

pub access_there : (place : Place) (old : Stored) (len : ℕ) → ShowsLength old place.number access_path (Some len) → OfPlace HasAccess place old
access_there place old len shows = λ tree seen at none. (let some : file_at at.room access_path ≡ Some (shows tree at.room seen at.there).0 = (shows tree at.room seen at.there).1 in cc)

pub access_missing : (place : Place) (old new : Stored) → ShowsLength old place.number access_path None → Fails (IsPlaced place) old new (Broken (variant.NoAccess place.name))
access_missing place old new shows = record {
  cause = λ e. absurd (cc);
  right = λ tree seen at. (at.other, (place.number, at.room, at.there, at.named, none at.room (shows tree at.room seen at.there)));
}
  where
    none : (room : Room) → TellsLength room access_path None → file_at room access_path ≡ None
    none room (inl gone) = absurd (cc)
    none room (inr gone) = gone

-- ---- its name

pub name_wrong : (place : Place) (old : Stored) (result : Result Unit Finding) → IfErr result (λ finding. (finding ≡ Broken (variant.RoomName place.name)) × (IsLogicalName place.name → ⊥)) → IfErr result (Fails (IsPlaced place) old old)
name_wrong place old (Ok done) wrong = tt
name_wrong place old (Err finding) wrong = subst (λ (f : Finding). Fails (IsPlaced place) old old f) (sym wrong.0) (record {
  cause = λ e. absurd (cc);
  right = λ tree seen at. (at.other, (place.number, at.room, at.there, at.named, wrong.1));
})

-- ---- a folder

nothing : (xs : List Path) → xs ++ [] ≡ xs
nothing [] = refl
nothing (x ∷ xs) = ap (λ (l : List Path). x ∷ l) (nothing xs)

-- where nothing is listed no folder of this name is there
lacks : (room : Room) (folder : Name) → TellsFolder room folder None → has_folder room folder ≡ true → ⊥
lacks room folder none has = absurd (cc)

none_in : (place : Place) (tree : Tree) (at : IsPlaced place tree) (folder : Name) → TellsFolder at.room folder None → IsFolderOf folder [] tree at.room
none_in place tree at folder none = record {
  allowed = λ has. absurd (lacks at.room folder none has);
  all = λ name bytes other b. absurd (lacks at.room folder none ((at.listable.orderly.rooms place.number at.room at.there).housed (in_folder folder name) bytes b));
  are = λ path one. absurd one;
  inside = λ path one. absurd one;
  ordered = none_sorted;
}

-- the entry of the empty name
pub adds_empty : (place : Place) (old : Stored) (top : Name) (path : Path) (paths : List Path) (result : Result Unit Finding) → top ≡ [] → path ≡ in_folder [] top → OnOk result (OfPlace (IsFineItem path) place old)
    → OnOk result (Adds (IsTopOf top) paths paths place old)
adds_empty place old top path paths (Err finding) empty is file = tt
adds_empty place old top path paths (Ok done) empty is file = record {
  more = [];
  longer = sym (nothing paths);
  of = λ tree seen at. record {
    file = subst (λ (p : Path). IsFineItem p tree at.room) is (file tree seen at);
    folder = record {
      allowed = λ has. inl empty;
      all = λ name bytes other b. absurd (other empty);
      are = λ path one. absurd one;
      inside = λ path one. absurd one;
      ordered = none_sorted;
    };
  };
}

-- one that is no folder
pub adds_file : (place : Place) (old mid : Stored) (top : Name) (path : Path) (paths : List Path) (result : Result Unit Finding) → ShowsFolder old place.number top None → IsLookedAt old mid → path ≡ in_folder [] top
    → OnOk result (OfPlace (IsFineItem path) place mid) → OnOk result (Adds (IsTopOf top) paths paths place old)
adds_file place old mid top path paths (Err finding) shows looked is file = tt
adds_file place old mid top path paths (Ok done) shows looked is file = record {
  more = [];
  longer = sym (nothing paths);
  of = λ tree seen at. record {
    file = subst (λ (p : Path). IsFineItem p tree at.room) is (file tree (seen_on old mid tree looked seen) at);
    folder = none_in place tree at top (shows tree at.room seen at.there);
  };
}

foreign_so : (place : Place) (old new : Stored) (folder : Name) (names : List Name) (finding : Finding) → ShowsFolder old place.number folder (Some names) → IsForeignFolder place.name folder finding → Fails (IsPlaced place) old new finding
foreign_so place old new folder names finding shows (inl none) = no_memory (IsPlaced place) old new finding none
foreign_so place old new folder names finding shows (inr (is, other)) = subst (λ (f : Finding). Fails (IsPlaced place) old new f) (sym is) (record {
  cause = λ e. absurd (cc);
  right = λ tree seen at. (place.number, at.room, at.there, at.named, ((shows tree at.room seen at.there).0, wrong at.other));
})
  where
    wrong : place.name ≢ marks_name → complaint.IsAllowed place.name folder → ⊥
    wrong apart (inl of_marks) = apart of_marks.0
    wrong apart (inr may) = other may.1

pub folder_foreign : (place : Place) (old new : Stored) (folder : Name) (names : List Name) (result : Result Unit Finding) → ShowsFolder old place.number folder (Some names) → IfErr result (IsForeignFolder place.name folder) → IfErr result (Fails (IsPlaced place) old new)
folder_foreign place old new folder names (Ok done) shows wrong = tt
folder_foreign place old new folder names (Err finding) shows wrong = foreign_so place old new folder names finding shows wrong

file_there : (room : Room) (folder name : Name) (names : List Name) → AreNamesOf room folder names → folder ≢ [] → is_listed name names ≡ true → (bytes : List ℕ) × (file_at room (in_folder folder name) ≡ Some bytes)
file_there room folder name names are other e = of (is_top folder) refl (file_at room (in_folder folder name)) refl (sym (are.exactly name) ∙ e)
  where
    of : (b : Bool) → is_top folder ≡ b → (found : Option (List ℕ)) → file_at room (in_folder folder name) ≡ found → (is_some found || (b && is_listed name room.folders)) ≡ true → (bytes : List ℕ) × (file_at room (in_folder folder name) ≡ Some bytes)
    of true t found f has = absurd (other (top_is_empty folder t))
    of false t (Some bytes) f has = (bytes, f)
    of false t None f has = absurd (cc)

-- a folder and no file has the name
no_file_of : (place : Place) (tree : Tree) (at : IsPlaced place tree) (folder : Name) → folder ≢ [] → has_folder at.room folder ≡ true → file_at at.room (in_folder [] folder) ≡ None
no_file_of place tree at folder other has = of (is_top folder) refl has
  where
    of : (b : Bool) → is_top folder ≡ b → (b || is_listed folder at.room.folders) ≡ true → file_at at.room (in_folder [] folder) ≡ None
    of true t listed = absurd (other (top_is_empty folder t))
    of false t listed = at.listable.apart place.number at.room folder at.there listed

vacuous : (tree : Tree) (room : Room) (path : Path) → file_at room path ≡ None → IsFineItem path tree room
vacuous tree room path none bytes b = absurd (cc)

-- one that is a folder
pub adds_files : (place : Place) (old : Stored) (top : Name) (names : List Name) (before after : List Path) (result : Result Unit Finding) → top ≢ [] → ShowsFolder old place.number top (Some names)
    → OnOk result (IsContainerFolder top × (after ≡ before ++ map (in_folder top) names)) → OnOk result (Adds (IsTopOf top) before after place old)
adds_files place old top names before after (Err finding) other shows both = tt
adds_files place old top names before after (Ok done) other shows both = record {
  more = map (in_folder top) names;
  longer = both.1;
  of = λ tree seen at. record {
    file = vacuous tree at.room (in_folder [] top) (no_file_of place tree at top other (shows tree at.room seen at.there).0);
    folder = record {
      allowed = λ has. both.0;
      all = λ name bytes not_top b. name_has_path top names name (some_entry at.room top name bytes names (shows tree at.room seen at.there).1 b);
      are = λ path one. (
          let has = path_has_name top names path one in
          let file = file_there at.room top has.0 names (shows tree at.room seen at.there).1 other has.2 in
          (file.0, ap (file_at at.room) has.1 ∙ file.1));
      inside = λ path one. ap (λ (p : Path). p.folder) (path_has_name top names path one).1;
      ordered = folder_sorted top names (shows tree at.room seen at.there).1.ordered;
    };
  };
}

-- ---- all entries of the top

pub walked_none : (place : Place) (old : Stored) (tops : List Name) → OfPlace (HasWalked (take 0 tops) []) place old
walked_none place old tops = λ tree seen at. record {
  files = λ name e. absurd (cc);
  folders = λ folder e has. absurd (cc);
  all = λ folder name bytes e other b. absurd (cc);
  are = λ path one. absurd one;
  inside = λ path one. absurd one;
  ordered = λ sorted. none_sorted;
}

abbrev IsEarlier : List Name → ℕ → Name → Name → Type 0
IsEarlier tops i top name = (is_listed name (take i tops) ≡ true) ⊎ (top ≡ name)

earlier : (tops : List Name) (i : ℕ) (top name : Name) → slice_get tops i ≡ Some top → is_listed name (take (i + 1) tops) ≡ true → IsEarlier tops i top name
earlier tops i top name at e = let next : i + 1 ≡ suc i = omega arith in listed_more tops i top name at (ap (λ (n : ℕ). is_listed name (take n tops)) (sym next) ∙ e)

pub walked_more : (place : Place) (old mid : Stored) (tops : List Name) (i : ℕ) (top : Name) (before after : List Path) → slice_get tops i ≡ Some top → IsLookedAt old mid
    → OfPlace (HasWalked (take i tops) before) place old → Adds (IsTopOf top) before after place mid → OfPlace (HasWalked (take (i + 1) tops) after) place old
walked_more place old mid tops i top before after at_i looked walked adds = λ tree seen at. (
    let was = walked tree seen at in
    let now = adds.of tree (seen_on old mid tree looked seen) at in
    let room = at.room in
    record {
      files = λ name e. elim (earlier tops i top name at_i e) [
        | inl before_it ↦ was.files name before_it
        | inr same ↦ subst (λ (n : Name). IsFineItem (in_folder [] n) tree room) same now.file
      ];
      folders = λ folder e. elim (earlier tops i top folder at_i e) [
        | inl before_it ↦ was.folders folder before_it
        | inr same ↦ subst (λ (n : Name). has_folder room n ≡ true → IsContainerFolder n) same now.folder.allowed
      ];
      all = λ folder name bytes e other b. subst (λ (l : List Path). IsOneOf l (in_folder folder name)) (sym adds.longer) (elim (earlier tops i top folder at_i e) [
        | inl before_it ↦ in_front before adds.more (in_folder folder name) (was.all folder name bytes before_it other b)
        | inr same ↦ behind before adds.more (in_folder folder name) (of_this tree room now.folder.all folder name bytes same other b)
      ]);
      are = λ path one. elim (one_of_both before adds.more path (subst (λ (l : List Path). IsOneOf l path) adds.longer one)) [
        | inl before_it ↦ was.are path before_it
        | inr behind_it ↦ now.folder.are path behind_it
      ];
      inside = λ path one. elim (one_of_both before adds.more path (subst (λ (l : List Path). IsOneOf l path) adds.longer one)) [
        | inl before_it ↦ folder_front tops i path.folder (was.inside path before_it)
        | inr behind_it ↦ folder_last tops i top path.folder at_i (now.folder.inside path behind_it)
      ];
      ordered = λ sorted. subst ArePathsInOrder (sym adds.longer) (paths_sorted tops i top before adds.more at_i was.inside now.folder.inside was.ordered now.folder.ordered sorted);
    })
  where
    of_this : (tree : Tree) (room : Room) → ((name : Name) (bytes : List ℕ) → top ≢ [] → file_at room (in_folder top name) ≡ Some bytes → IsOneOf adds.more (in_folder top name))
        → (folder name : Name) (bytes : List ℕ) → top ≡ folder → folder ≢ [] → file_at room (in_folder folder name) ≡ Some bytes → IsOneOf adds.more (in_folder folder name)
    of_this tree room all folder name bytes same other b = subst (λ (f : Name). f ≢ [] → file_at room (in_folder f name) ≡ Some bytes → IsOneOf adds.more (in_folder f name)) same (λ o c. all name bytes o c) other b

pub walked_all : (place : Place) (old : Stored) (tops : List Name) (i : ℕ) (paths : List Path) → length tops ≤ i → OfPlace (HasWalked (take i tops) paths) place old → OfPlace (HasWalked tops paths) place old
walked_all place old tops i paths past walked = subst (λ (l : List Name). OfPlace (HasWalked l paths) place old) (take_all i tops past) walked

-- ---- the whole container

pub paths_are : (place : Place) (old mid : Stored) (tops : List Name) (result : Result (List Path) Finding) → IsLookedAt old mid → ShowsNames old place.number [] tops → IfOk result (λ paths. OfPlace (HasWalked tops paths) place mid) → IfOk result (λ paths. OfPlace (AreWalked paths) place old)
paths_are place old mid tops (Err finding) looked shows walked = tt
paths_are place old mid tops (Ok paths) looked shows walked = λ tree seen at. (
    let names = (shows tree at.room seen at.there).1 in
    let was = walked tree (seen_on old mid tree looked seen) at in
    let room = at.room in
    record {
      files = λ name bytes b. was.files name (some_entry room [] name bytes tops names b) bytes b;
      folders = λ folder has. of_folder room tops names was.folders folder (is_top folder) refl has has;
      all = λ path bytes other b. (
          let housed : has_folder room path.folder ≡ true = (at.listable.orderly.rooms place.number room at.there).housed path bytes b in
          was.all path.folder path.file bytes (in_tops room tops names path.folder other (is_top path.folder) refl housed) other b);
      are = was.are;
      ordered = was.ordered names.ordered;
    })
  where
    of_folder : (room : Room) (tops : List Name) → AreNamesOf room [] tops → ((folder : Name) → is_listed folder tops ≡ true → has_folder room folder ≡ true → IsContainerFolder folder)
        → (folder : Name) (b : Bool) → is_top folder ≡ b → (b || is_listed folder room.folders) ≡ true → has_folder room folder ≡ true → IsContainerFolder folder
    of_folder room tops names each folder true e listed has = inl (top_is_empty folder e)
    of_folder room tops names each folder false e listed has = each folder (folder_entry room folder tops names listed) has

    in_tops : (room : Room) (tops : List Name) → AreNamesOf room [] tops → (folder : Name) → folder ≢ [] → (b : Bool) → is_top folder ≡ b → (b || is_listed folder room.folders) ≡ true → is_listed folder tops ≡ true
    in_tops room tops names folder other true e listed = absurd (other (top_is_empty folder e))
    in_tops room tops names folder other false e listed = folder_entry room folder tops names listed

access_empty : (tree : Tree) (room : Room) → ((bytes : List ℕ) → file_at room access_path ≡ Some bytes → IsItemFile (IsOfMark tree) room access_path bytes) → (found : Option (List ℕ)) → file_at room access_path ≡ found → found ≢ None → file_at room access_path ≡ Some []
access_empty tree room file None e some = absurd (some refl)
access_empty tree room file (Some bytes) e some =
    let is = file bytes e in
    let same : is.item ≡ Access = one_item access_path is.item Access is.is_at (record { is_item = record { in_range = tt; widths = tt }; printed = refl }) in
    let empty : bytes ≡ [] = subst (λ (i : Item). MayHold i bytes) same is.holds in
    e ∙ ap Some empty

its_file : (tree : Tree) (room : Room) (paths : List Path) → AreWalked paths tree room → EachAt IsFineItem paths tree room → (path : Path) (b : Bool) → is_top path.folder ≡ b → (bytes : List ℕ) → file_at room path ≡ Some bytes → IsItemFile (IsOfMark tree) room path bytes
its_file tree room paths walked each path true e bytes b =
    let here : path ≡ in_folder [] path.file = path_eq path (in_folder [] path.file) (top_is_empty path.folder e) refl in
    let at_here : file_at room (in_folder [] path.file) ≡ Some bytes = ap (file_at room) (sym here) ∙ b in
    subst (λ (p : Path). IsItemFile (IsOfMark tree) room p bytes) (sym here) (walked.files path.file bytes at_here)
its_file tree room paths walked each path false e bytes b = each path (walked.all path bytes (λ top. (let t : is_top path.folder ≡ true = ap is_top top in absurd (cc))) b) bytes b

shape_at : (place : Place) (tree : Tree) (at : IsPlaced place tree) (paths : List Path) → IsLogicalName place.name → AreWalked paths tree at.room → EachAt IsFineItem paths tree at.room → HasNeeded tree at.room → HasShape paths tree at.room
shape_at place tree at paths named walked each needed =
    let room = at.room in
    let orderly = at.listable.orderly.rooms place.number room at.there in
    let files : (path : Path) (bytes : List ℕ) → file_at room path ≡ Some bytes → IsItemFile (IsOfMark tree) room path bytes = λ path bytes b. its_file tree room paths walked each path (is_top path.folder) refl bytes b in
    record {
      container = record {
        named = subst IsLogicalName (sym at.named) named;
        folders_differ = orderly.folders;
        paths_differ = orderly.paths;
        has_metadata = needed.metadata;
        has_truncs = needed.truncs;
        has_flats = needed.flats;
        has_access = access_empty tree room (files access_path) (file_at room access_path) refl needed.access;
        folders = walked.folders;
        top_unlisted = at.listable.tops_unlisted place.number room at.there;
        files = files;
      };
      all = walked.all;
      are = walked.are;
      ordered = walked.ordered;
    }

pub has_shape : (place : Place) (old a b : Stored) (paths : List Path) → IsLogicalName place.name → IsLookedAt old a → IsLookedAt old b → OfPlace (AreWalked paths) place old → OfPlace (EachAt IsFineItem paths) place a → OfPlace HasNeeded place b → OfPlace (HasShape paths) place old
has_shape place old a b paths named to_a to_b walked each needed = λ tree seen at.
    shape_at place tree at paths named (walked tree seen at) (each tree (seen_on old a tree to_a seen) at) (needed tree (seen_on old b tree to_b seen) at)

pub has_needed : (place : Place) (old a b c : Stored) (m t f : Name) (result : Result Unit Finding) → m ≡ metadata → t ≡ truncs → f ≡ flats → IsLookedAt old a → IsLookedAt old b → IsLookedAt old c
    → OfPlace (λ tree room. has_folder room m ≡ true) place old → OfPlace (λ tree room. has_folder room t ≡ true) place a → OfPlace (λ tree room. has_folder room f ≡ true) place b → OnOk result (OfPlace HasAccess place c) → OnOk result (OfPlace HasNeeded place old)
has_needed place old a b c m t f (Err finding) em et ef to_a to_b to_c has_m has_t has_f access = tt
has_needed place old a b c m t f (Ok done) em et ef to_a to_b to_c has_m has_t has_f access = λ tree seen at. record {
  metadata = ap (has_folder at.room) (sym em) ∙ has_m tree seen at;
  truncs = ap (has_folder at.room) (sym et) ∙ has_t tree (seen_on old a tree to_a seen) at;
  flats = ap (has_folder at.room) (sym ef) ∙ has_f tree (seen_on old b tree to_b seen) at;
  access = access tree (seen_on old c tree to_c seen) at;
}

-- who fails at a room fails at its place
pub room_fails : (place : Place) (old new : Stored) (result : Result (List Path) Finding) → IfErr result (Fails (HasRoom place.number) old new) → IfErr result (Fails (IsPlaced place) old new)
room_fails place old new (Ok paths) f = tt
room_fails place old new (Err finding) f = no_place place old new finding f

-- what fails later fails, whatever else it would have given
pub fails_later : (P : Tree → Type 0) (old mid new : Stored) (result : Result (List Path) Finding) → IsLookedAt old mid → IfErr result (Fails P mid new) → IfErr result (Fails P old new)
fails_later P old mid new (Ok paths) looked f = tt
fails_later P old mid new (Err finding) looked f = fails_on P old mid new finding looked f
