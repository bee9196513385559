-- What is shown of a file in the room of marks.
use Rattle.std.proofs.Common.{◌≡◌, ℕ, ◌⊎◌, inl, inr, ◌↔◌, Bool, true, false, List, [], ◌∷◌, length, Option, Some, None, refl, ap, sym, ◌∙◌, subst, arith}
use Rattle.std.specs.Prelude.{slice_get, IsTrue, IfErr, OnOk, Result, Ok, Err}
use Rattle.std.specs.Prelude.{is_some, ◌||◌, ◌&&◌}
use Rattle.std.proofs.lemmas.Bool.Decides.{nat_tests}
use Rattle.plfs_types.specs.declared.names.Path.{Path}
use Rattle.store_api.specs.declared.tree.Room.{Room}
use Rattle.store_api.specs.declared.tree.Tree.{Tree}
use Rattle.store_api.specs.Acts.{Stored}
use Rattle.store_api.specs.Room.{has_folder, is_top}
use Rattle.store_laws.specs.Files.{file_at}
use Rattle.store_laws.specs.Differ.{is_listed}
use Rattle.store_laws.specs.There.{AreNamesOf}
use Rattle.store_laws.proofs.Facts.{path_eq}
use Rattle.mount_model.specs.Paths.{Name, mark_name, mark_path}
use Rattle.store_api.specs.Names.{marks_folder}
use Rattle.store_api.specs.Names.{marks_name}
use Rattle.mount_sound.specs.Marks.{IsMarkFile, IsMarksRoom}
use Rattle.tree_laws.specs.Complaints as complaint
use Rattle.shape_check.specs.declared.finding.Finding.{Finding}
use Rattle.shape_check.specs.declared.finding.Finding.TheVariants.{Broken, Untold}
use Rattle.shape_check.specs.declared.finding.Complaint.TheVariants as variant
use Rattle.shape_check.specs.Places.{IsMarksPlace, IsMarkName, OfMarks, IsFineMark, IsFineFile, IsFineTop, IsFineFolder, Each, ShowsNames}
use Rattle.shape_check.specs.Rightness.{Fails}
use Rattle.shape_check.specs.Seeing.{IsSeen, IsLookedAt, HasRoom}
use Rattle.shape_check.specs.Told.{TellsFolder, TellsLength}
use Rattle.shape_check.proofs.Seen.{seen_on}

-- a look at the room failed
pub no_room : (number : ℕ) (old new : Stored) (finding : Finding) → Fails (HasRoom number) old new finding → Fails (IsMarksPlace number) old new finding
no_room number old new finding f = record { cause = f.cause; right = λ tree seen place. f.right tree seen (place.room, place.there) }

-- no file is there
pub no_file : (room : Room) (path : Path) (listable : (bytes : List ℕ) → file_at room path ≡ Some bytes → has_folder room path.folder ≡ true) → TellsLength room path None → file_at room path ≡ None
no_file room path housed (inr none) = none
no_file room path housed (inl none) = of (file_at room path) refl
  where
    of : (found : Option (List ℕ)) → file_at room path ≡ found → file_at room path ≡ None
    of None e = e
    of (Some bytes) e = let there : has_folder room path.folder ≡ true = housed bytes e in absurd (cc)

abbrev Shows : Stored → ℕ → Path → Option ℕ → Type 0
Shows old number path found = (tree : Tree) (held : Room) → IsSeen old tree → slice_get tree.rooms number ≡ Some held → TellsLength held path found

its_file : (tree : Tree) (number : ℕ) (place : IsMarksPlace number tree) (path : Path) → TellsLength place.room path None → file_at place.room path ≡ None
its_file tree number place path t = no_file place.room path (λ bytes at. (place.listable.orderly.rooms number place.room place.there).housed path bytes at) t

pub mark_gone : (old : Stored) (number : ℕ) (path : Path) → Shows old number path None → OfMarks (IsFineMark path) number old
mark_gone old number path shows = λ tree seen place bytes at. (
    let none : file_at place.room path ≡ None = its_file tree number place path (shows tree place.room seen place.there) in
    absurd (cc))

pub empty : (bytes : List ℕ) → length bytes ≡ 0 → bytes ≡ []
empty [] e = refl
empty (x ∷ xs) e = absurd (omega (arith, e))

pub mark_fine : (old : Stored) (number : ℕ) (name : Name) (len : ℕ) → Shows old number (record { folder = marks_folder; file = name }) (Some len) → (len ≡ 0) × IsMarkName name
    → OfMarks (IsFineMark (record { folder = marks_folder; file = name })) number old
mark_fine old number name len shows fine = λ tree seen place bytes at. (
    let t = shows tree place.room seen place.there in
    let same : t.0 ≡ bytes = cc in
    let none : length bytes ≡ 0 = ap (λ (l : List ℕ). length l) (sym same) ∙ t.2 ∙ fine.0 in
    (fine.1.0, fine.1.1, fine.1.2, ap (λ (n : Name). record { folder = marks_folder; file = n }) fine.1.3, empty bytes none))

named_so : (n : ℕ) (name : Name) → record { folder = marks_folder; file = name } ≡ mark_path n → name ≡ mark_name n
named_so n name e = ap (λ (p : Path). p.file) e

wrong_mark : (old new : Stored) (number : ℕ) (name : Name) (len : ℕ) → Shows old number (record { folder = marks_folder; file = name }) (Some len) → ((len ≡ 0) × IsMarkName name → ⊥)
    → Fails (IsMarksPlace number) old new (Broken (variant.NoMark (record { folder = marks_folder; file = name })))
wrong_mark old new number name len shows wrong = record {
  cause = λ e. absurd (cc);
  right = λ tree seen place. (
      let t = shows tree place.room seen place.there in
      (number, place.room, place.there, place.named, (t.0, t.1, λ is. wrong (sym t.2 ∙ ap (λ (l : List ℕ). length l) is.4, (is.0, is.1, is.2, named_so is.0 name is.3)))));
}

pub mark_wrong : (old new : Stored) (number : ℕ) (name : Name) (len : ℕ) (is : Bool) (result : Result Unit Finding) → Shows old number (record { folder = marks_folder; file = name }) (Some len) → (IsTrue is ↔ ((len ≡ 0) × IsMarkName name)) → is ≡ false
    → result ≡ Err (Broken (variant.NoMark (record { folder = marks_folder; file = name }))) → IfErr result (Fails (IsMarksPlace number) old new)
mark_wrong old new number name len is result shows rule no_mark e =
    subst (λ (r : Result Unit Finding). IfErr r (Fails (IsMarksPlace number) old new)) (sym e)
    (wrong_mark old new number name len shows (λ fine. (let true_is : IsTrue is = rule.1 fine in let t : is ≡ true = true_is in absurd (cc))))

-- ---- the top

abbrev pub ShowsFolder : Stored → ℕ → Name → Option (List Name) → Type 0
ShowsFolder old number folder found = (tree : Tree) (held : Room) → IsSeen old tree → slice_get tree.rooms number ≡ Some held → TellsFolder held folder found

no_folder : (old : Stored) (number : ℕ) (top : Name) → ShowsFolder old number top None → OfMarks (IsFineFolder top) number old
no_folder old number top shows = λ tree seen place has. (let none : has_folder place.room top ≡ false = shows tree place.room seen place.there in absurd (cc))

pub folder_wrong : (old new : Stored) (number : ℕ) (top : Name) (names : List Name) (finding : Finding) → ShowsFolder old number top (Some names) → (finding ≡ Broken (variant.ForeignFolder marks_name top)) × ((top ≡ []) ⊎ (top ≡ marks_folder) → ⊥)
    → Fails (IsMarksPlace number) old new finding
folder_wrong old new number top names finding shows wrong = subst (λ (f : Finding). Fails (IsMarksPlace number) old new f) (sym wrong.0) (record {
  cause = λ e. absurd (cc);
  right = λ tree seen place. (number, place.room, place.there, place.named, ((shows tree place.room seen place.there).0, λ allowed. wrong.1 (of top allowed)));
})
  where
    of : (folder : Name) → complaint.IsAllowed marks_name folder → (folder ≡ []) ⊎ (folder ≡ marks_folder)
    of folder (inl is) = is.1
    of folder (inr other) = absurd (other.0 refl)

no_top_mark : (name : Name) (bytes : List ℕ) → IsMarkFile (record { folder = []; file = name }) bytes → ⊥
no_top_mark name bytes is = let same : [] ≡ marks_folder = ap (λ (p : Path). p.folder) is.3 in absurd (cc)

pub top_file : (old new : Stored) (number : ℕ) (name : Name) (len : ℕ) (finding : Finding) → Shows old number (record { folder = []; file = name }) (Some len)
    → finding ≡ Broken (variant.NoMark (record { folder = []; file = name })) → Fails (IsMarksPlace number) old new finding
top_file old new number name len finding shows is = subst (λ (f : Finding). Fails (IsMarksPlace number) old new f) (sym is) (record {
  cause = λ e. absurd (cc);
  right = λ tree seen place. (let t = shows tree place.room seen place.there in (number, place.room, place.there, place.named, (t.0, t.1, no_top_mark name t.0)));
})

-- ---- the room

pub names_shown : (old : Stored) (number : ℕ) (folder : Name) (names : List Name) → ShowsFolder old number folder (Some names) → ShowsNames old number folder names
names_shown old number folder names shows = shows

pub tops_shown : (old : Stored) (number : ℕ) (names : List Name) → ShowsFolder old number [] (Some names) → ShowsNames old number [] names
tops_shown old number names shows = shows

-- the top is always there
pub tops_untold : (old new : Stored) (number : ℕ) → ShowsFolder old number [] None → Fails (HasRoom number) old new Untold
tops_untold old new number shows = record {
  cause = λ e. absurd (cc);
  right = λ tree seen has. (let none : has_folder has.0 [] ≡ false = shows tree has.0 seen has.1 in absurd (cc));
}

pub marks_missing : (old new : Stored) (number : ℕ) → ShowsFolder old number marks_folder None → Fails (IsMarksPlace number) old new (Broken (variant.NoFolder marks_name marks_folder))
marks_missing old new number shows = record {
  cause = λ e. absurd (cc);
  right = λ tree seen place. (number, place.room, place.there, place.named, (shows tree place.room seen place.there, inl (refl, refl)));
}

pub some_entry : (room : Room) (folder name : Name) (bytes : List ℕ) (names : List Name) → AreNamesOf room folder names → file_at room (record { folder = folder; file = name }) ≡ Some bytes → is_listed name names ≡ true
some_entry room folder name bytes names are at = are.exactly name ∙ ap (λ (found : Option (List ℕ)). is_some found || (is_top folder && is_listed name room.folders)) at

either_way : (b : Bool) → (b || true) ≡ true
either_way true = refl
either_way false = refl

pub folder_entry : (room : Room) (name : Name) (names : List Name) → AreNamesOf room [] names → is_listed name room.folders ≡ true → is_listed name names ≡ true
folder_entry room name names are e =
    are.exactly name ∙ ap (λ (b : Bool). is_some (file_at room (record { folder = []; file = name })) || b) e ∙ either_way (is_some (file_at room (record { folder = []; file = name })))

pub top_is_empty : (folder : Name) → is_top folder ≡ true → folder ≡ []
top_is_empty [] e = refl
top_is_empty (x ∷ xs) e = absurd (grind (arith, nat_tests))

-- the entry of the empty name
pub empty_fine : (old : Stored) (number : ℕ) (top : Name) (result : Result Unit Finding) → top ≡ [] → OnOk result (OfMarks (IsFineMark (record { folder = []; file = top })) number old) → OnOk result (OfMarks (IsFineTop top) number old)
empty_fine old number top (Err finding) is file = tt
empty_fine old number top (Ok done) is file = λ tree seen place. record { file = file tree seen place; folder = λ has. inl is }

-- one that is no folder
pub file_fine : (old mid : Stored) (number : ℕ) (top : Name) (result : Result Unit Finding) → ShowsFolder old number top None → IsLookedAt old mid → OnOk result (OfMarks (IsFineMark (record { folder = []; file = top })) number mid)
    → OnOk result (OfMarks (IsFineTop top) number old)
file_fine old mid number top (Err finding) shows looked file = tt
file_fine old mid number top (Ok done) shows looked file = λ tree seen place. record {
  file = file tree (seen_on old mid tree looked seen) place;
  folder = no_folder old number top shows tree seen place;
}

-- one that is a folder is no file
no_file_of : (tree : Tree) (number : ℕ) (place : IsMarksPlace number tree) (folder : Name) → (folder ≡ [] → ⊥) → (b : Bool) → is_top folder ≡ b → (b || is_listed folder place.room.folders) ≡ true → file_at place.room (record { folder = []; file = folder }) ≡ None
no_file_of tree number place folder other true t listed = absurd (other (top_is_empty folder t))
no_file_of tree number place folder other false t listed = place.listable.apart number place.room folder place.there listed

vacuous : (room : Room) (path : Path) → file_at room path ≡ None → IsFineMark path room
vacuous room path none bytes b = absurd (cc)

pub folder_judged : (old : Stored) (number : ℕ) (top : Name) (names : List Name) (result : Result Unit Finding) → (top ≡ [] → ⊥) → ShowsFolder old number top (Some names) → OnOk result ((top ≡ []) ⊎ (top ≡ marks_folder)) → OnOk result (OfMarks (IsFineTop top) number old)
folder_judged old number top names (Err finding) other shows is = tt
folder_judged old number top names (Ok done) other shows is = λ tree seen place. record {
  file = vacuous place.room (record { folder = []; file = top }) (no_file_of tree number place top other (is_top top) refl (shows tree place.room seen place.there).0);
  folder = λ has. is;
}

pub folder_right : (old new : Stored) (number : ℕ) (top : Name) (names : List Name) (result : Result Unit Finding) → ShowsFolder old number top (Some names)
    → IfErr result (λ finding. (finding ≡ Broken (variant.ForeignFolder marks_name top)) × ((top ≡ []) ⊎ (top ≡ marks_folder) → ⊥)) → IfErr result (Fails (IsMarksPlace number) old new)
folder_right old new number top names (Ok done) shows wrong = tt
folder_right old new number top names (Err finding) shows wrong = folder_wrong old new number top names finding shows wrong

module _ (tree : Tree) (number : ℕ) (place : IsMarksPlace number tree) (tops files : List Name) (top_names : AreNamesOf place.room [] tops) (has_marks : has_folder place.room marks_folder ≡ true)
    (file_names : AreNamesOf place.room marks_folder files) (fine_tops : Each IsFineTop tops place.room) (fine_files : Each IsFineFile files place.room) where
  its_folder : (folder : Name) (b : Bool) → is_top folder ≡ b → (b || is_listed folder place.room.folders) ≡ true → has_folder place.room folder ≡ true → (folder ≡ []) ⊎ (folder ≡ marks_folder)
  its_folder folder true e listed has = inl (top_is_empty folder e)
  its_folder folder false e listed has = (fine_tops folder (folder_entry place.room folder tops top_names listed)).folder has

  its_mark : (path : Path) (bytes : List ℕ) → file_at place.room path ≡ Some bytes → (path.folder ≡ []) ⊎ (path.folder ≡ marks_folder) → IsMarkFile path bytes
  its_mark path bytes at (inl top) =
      let here : path ≡ record { folder = []; file = path.file } = path_eq path (record { folder = []; file = path.file }) top refl in
      let at_here : file_at place.room (record { folder = []; file = path.file }) ≡ Some bytes = ap (file_at place.room) (sym here) ∙ at in
      absurd (no_top_mark path.file bytes ((fine_tops path.file (some_entry place.room [] path.file bytes tops top_names at_here)).file bytes at_here))
  its_mark path bytes at (inr in_marks) =
      let here : path ≡ record { folder = marks_folder; file = path.file } = path_eq path (record { folder = marks_folder; file = path.file }) in_marks refl in
      let at_here : file_at place.room (record { folder = marks_folder; file = path.file }) ≡ Some bytes = ap (file_at place.room) (sym here) ∙ at in
      subst (λ (p : Path). IsMarkFile p bytes) (sym here) (fine_files path.file (some_entry place.room marks_folder path.file bytes files file_names at_here) bytes at_here)

  marks_are : IsMarksRoom place.room
  marks_are = record {
    named = place.named;
    folders_differ = (place.listable.orderly.rooms number place.room place.there).folders;
    paths_differ = (place.listable.orderly.rooms number place.room place.there).paths;
    has_marks = has_marks;
    folders = λ folder has. its_folder folder (is_top folder) refl has has;
    top_unlisted = place.listable.tops_unlisted number place.room place.there;
    files = λ path bytes at. (
        let has = (place.listable.orderly.rooms number place.room place.there).housed path bytes at in
        its_mark path bytes at (its_folder path.folder (is_top path.folder) refl has has));
  }

pub marks_checked : (old mid later : Stored) (number : ℕ) (tops files : List Name) (result : Result Unit Finding) → ShowsNames old number [] tops → IsLookedAt old mid → OfMarks (Each IsFineTop tops) number old
    → ShowsNames mid number marks_folder files → IsLookedAt old later → OnOk result (OfMarks (Each IsFineFile files) number later) → OnOk result (OfMarks IsMarksRoom number old)
marks_checked old mid later number tops files (Ok done) top_names looked fine_tops file_names looked_later fine_files = λ tree seen place. (
    let marked = file_names tree place.room (seen_on old mid tree looked seen) place.there in
    marks_are tree number place tops files (top_names tree place.room seen place.there).1 marked.0 marked.1 (fine_tops tree seen place) (fine_files tree (seen_on old later tree looked_later seen) place))
marks_checked old mid later number tops files (Err finding) top_names looked fine_tops file_names looked_later fine_files = tt
