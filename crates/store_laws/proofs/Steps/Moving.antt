-- A step that gives a file another name.
use Rattle.std.proofs.Common.{◌≡◌, ℕ, zero, suc, Bool, true, false, cond, ◌||◌, List, [], ◌∷◌, slice_get, slice_set, Option, Some, None, refl, ap, sym, ◌∙◌, ◌⊎◌, inl, inr, if◌then◌else◌}
use Rattle.std.specs.List.{find, list_any}
use Rattle.plfs_types.specs.declared.names.Path.{Path}
use Rattle.store_api.specs.declared.tree.File.{File}
use Rattle.store_api.specs.declared.tree.Room.{Room}
use Rattle.store_api.specs.declared.tree.Tree.{Tree}
use Rattle.store_api.specs.declared.step.Answer.TheVariants.{Made, Absent, NoFolder}
use Rattle.store_api.specs.Step.{Name, replace}
use Rattle.store_api.specs.Names.{same_name}
use Rattle.store_api.specs.Room.{stays, becomes, is_at, has_folder, place_of, file_in, with_file, without_file, file_named, file_renamed}
use Rattle.store_api.specs.Effect.{Effect, effect, room_after}
use Rattle.store_api.proofs.Facts.{find-set_other}
use Rattle.store_laws.specs.Files.{file_at, AreTwo, SameButFile}
use Rattle.store_laws.specs.Differ.{PathsDiffer}
use Rattle.store_laws.specs.Changes.{Replaced, beside}
use Rattle.store_laws.specs.Says.{WhyNoFile}
use Rattle.store_laws.specs.Outcomes.{Stays, ChangesOrStays}
use Rattle.store_laws.proofs.Names.Naming.{name_eq, name_apart, path_at, not_at, two_apart}
use Rattle.store_laws.proofs.Names.Searches.{find_none, none_found, find_unplaced}
use Rattle.store_laws.proofs.Names.Differing.{files_removed, files_renamed, gone_set}
use Rattle.store_laws.proofs.Steps.Rooms.{file_at_found, file_at_none, file_at_alike, kept_at_found, kept_at_alike, has_folder_same, without_others, without_gone}
use Rattle.store_laws.proofs.Steps.Entering.{FoundAt, placed_file, room_cases, file_cases, same_room, stays_in}

-- a room in which no file has the new name
record Cleared (room : Room) (target : Path) (clear : Room) : Type 0 where
  others : SameButFile target room clear
  gone : PathsDiffer room → file_in clear target.folder target.file ≡ None
  differ : PathsDiffer room → PathsDiffer clear

cleared : (room : Room) (target : Path) (place : Option ℕ) → place_of room target.folder target.file ≡ place → Cleared room target (without_file room place)
cleared room target None e = record {
  others = record { name = refl; folders = refl; files = λ other two. refl; kepts = λ other two. refl };
  gone = λ d. find_unplaced (is_at target.folder target.file) room.files e;
  differ = λ d. d;
}
cleared room target (Some place) e =
    let found = placed_file room target place e in
    record {
      others = without_others room target place found.0 found.1.stands found.1.has_path;
      gone = λ d. without_gone room target place found.0 found.1.stands found.1.has_path d;
      differ = λ d. files_removed room.files place d;
    }

-- an item that passes takes a place of a list in which none did
find_set_new : {X : Type 0} (p : X → Bool) (xs : List X) (i : ℕ) (old new : X) → slice_get xs i ≡ Some old → find p xs ≡ None → p new ≡ true → find p (slice_set xs i new) ≡ Some new
find_set_new p xs i old new at none passes = at_first p xs i old new at (none_found p xs none) passes
  where
    at_first : {X : Type 0} (p : X → Bool) (xs : List X) (i : ℕ) (old new : X) → slice_get xs i ≡ Some old → list_any p xs ≡ false → p new ≡ true → find p (slice_set xs i new) ≡ Some new
    at_first p [] i old new at none passes = absurd (cc)
    at_first p (x ∷ xs) zero old new at none passes = rw passes refl
    at_first p (x ∷ xs) (suc i) old new at none passes = elim (p x) as (λ b. (b || list_any p xs) ≡ false → cond b (Some x) (find p (slice_set xs i new)) ≡ Some new) [
      | true ↦ λ e. absurd (cc)
      | false ↦ λ e. at_first p xs i old new at e passes
    ] none

-- how the step ends
abbrev Replaces : Tree → ℕ → Path → Name → Effect → Type 0
Replaces tree n path to out = ((out.answer ≡ Made) × Replaced tree n path to out.tree) ⊎ Stays tree Made (WhyNoFile tree n path) out

-- the file under its new name
abbrev moved : File → Path → File
moved file target = record file { path = target }

module _ (tree : Tree) (n : ℕ) (path : Path) (to : Name) (room : Room) (has_room : slice_get tree.rooms n ≡ Some room) (there : has_folder room path.folder ≡ true) (bytes : List ℕ) (held : file_at room path ≡ Some bytes) (another : path.file ≡ to → ⊥) where
  two : AreTwo path (beside path to)
  two = λ f e. another e

  into : (clear : Room) → Cleared room (beside path to) clear → (place : ℕ) (file : File) → FoundAt clear path place file → Replaces tree n path to (room_after tree n (becomes (with_file clear place (moved file (beside path to)))))
  into clear c place file f =
      let same : file_at clear path ≡ Some bytes = c.others.files path two ∙ held in
      let is : Some file.bytes ≡ Some bytes = sym (file_at_found clear path file f.found) ∙ same in
      let whole : file.bytes ≡ bytes = cc in
      let target : File = moved file (beside path to) in
      inl (
        refl,
        inl record {
          room = room;
          bytes = bytes;
          new = with_file clear place target;
          has_room = has_room;
          folder = there;
          there = held;
          another = another;
          now = λ d. file_at_found (with_file clear place target) (beside path to) target
              (find_set_new (is_at path.folder to) clear.files place file target f.stands (c.gone d) (path_at (beside path to) target refl)) ∙ ap (λ b. Some b) whole;
          kept = λ d. kept_at_found (with_file clear place target) (beside path to) target
              (find_set_new (is_at path.folder to) clear.files place file target f.stands (c.gone d) (path_at (beside path to) target refl)) ∙ sym (kept_at_found clear path file f.found) ∙ c.others.kepts path two;
          gone = λ d. file_at_none (with_file clear place target) path
              (find_none (is_at path.folder path.file) (slice_set clear.files place target) (gone_set clear.files place file target path f.stands f.has_path (not_at path target (λ e. two_apart path (beside path to) two (sym e))) (c.differ d)));
          same_name = c.others.name;
          same_folders = c.others.folders;
          others = λ other a b. file_at_alike clear (with_file clear place target) other
              (find-set_other (is_at other.folder other.file) clear.files place file target f.stands (not_at other file (λ e. two_apart other path a (sym e ∙ f.has_path))) (not_at other target (λ e. two_apart other (beside path to) b (sym e)))) ∙ c.others.files other b;
          kepts = λ other a b. kept_at_alike clear (with_file clear place target) other
              (find-set_other (is_at other.folder other.file) clear.files place file target f.stands (not_at other file (λ e. two_apart other path a (sym e ∙ f.has_path))) (not_at other target (λ e. two_apart other (beside path to) b (sym e)))) ∙ c.others.kepts other b;
          differ = λ d. files_renamed clear.files place target (none_found (is_at path.folder to) clear.files (c.gone d)) (c.differ d);
          gives = refl;
        },
      )

  named : (clear : Room) → Cleared room (beside path to) clear → Replaces tree n path to (room_after tree n (file_named clear path.folder path.file to))
  named clear c =
      file_cases clear path (λ place file. becomes (with_file clear place (moved file (beside path to)))) (λ out. Replaces tree n path to (room_after tree n out))
      (λ none. let same = has_folder_same room clear path.folder c.others.folders in absurd (cc))
      (λ has none. let lost : file_at clear path ≡ None = file_at_none clear path none in let kept : file_at clear path ≡ Some bytes = c.others.files path two ∙ held in absurd (cc))
      (λ place file has f. into clear c place file f)

by_name : (tree : Tree) (n : ℕ) (path : Path) (to : Name) (room : Room) (place : ℕ) (file : File) → slice_get tree.rooms n ≡ Some room → has_folder room path.folder ≡ true → FoundAt room path place file → (b : Bool) → same_name path.file to ≡ b
    → Replaces tree n path to (room_after tree n (if b then stays room Made else file_named (without_file room (place_of room path.folder to)) path.folder path.file to))
by_name tree n path to room place file e there f true same =
    inl (refl, inr (name_eq path.file to same, record { room = room; bytes = file.bytes; has_room = e; folder = there; there = file_at_found room path file f.found }, same_room tree n room e))
by_name tree n path to room place file e there f false other =
    named tree n path to room e there file.bytes (file_at_found room path file f.found) (name_apart path.file to other) (without_file room (place_of room path.folder to)) (cleared room (beside path to) (place_of room path.folder to) refl)

-- a file gets another name, or the tree stays
pub replace_cases : (tree : Tree) (n : ℕ) (path : Path) (to : Name) → ChangesOrStays tree Made (Replaced tree n path to) (WhyNoFile tree n path) (effect tree (replace n path.folder path.file to))
replace_cases tree n path to =
    room_cases tree n (λ r. file_renamed r path.folder path.file to) (Replaces tree n path to)
    (λ none. inr record { same = refl; unmade = λ m. cc; why = none })
    (λ room e. file_cases room path (λ place file. if same_name path.file to then stays room Made else file_named (without_file room (place_of room path.folder to)) path.folder path.file to) (λ out. Replaces tree n path to (room_after tree n out))
    (λ none. inr (stays_in tree n room NoFolder Made (WhyNoFile tree n path) e (λ m. cc) record { room = room; has_room = e; none = none }))
    (λ there none. inr (stays_in tree n room Absent Made (WhyNoFile tree n path) e (λ m. cc) record { room = room; has_room = e; folder = there; none = file_at_none room path none }))
    (λ place file there f. by_name tree n path to room place file e there f (same_name path.file to) refl))
