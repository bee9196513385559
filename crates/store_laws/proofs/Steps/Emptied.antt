-- A step that removes a folder.
use Rattle.std.proofs.Common.{◌≡◌, ℕ, Bool, true, false, cond, not, ◌||◌, ◌&&◌, List, [], ◌∷◌, slice_get, Option, Some, None, refl, ap, sym, ◌∙◌, inl, inr, subst}
use Rattle.std.specs.Prelude.{is_some}
use Rattle.std.specs.List.{filter}
use Rattle.store_api.specs.declared.tree.Room.{Room}
use Rattle.store_api.specs.declared.tree.Tree.{Tree}
use Rattle.store_api.specs.declared.step.Answer.TheVariants.{Made, NoFolder, NotEmpty}
use Rattle.store_api.specs.Step.{Name, remove_folder}
use Rattle.store_api.specs.Names.{same_name}
use Rattle.store_api.specs.Room.{is_top, has_folder, listing, removed_if_empty, folder_removed}
use Rattle.store_api.specs.Effect.{Effect, effect, room_after}
use Rattle.store_laws.specs.Files.{file_at}
use Rattle.store_laws.specs.Differ.{is_listed}
use Rattle.store_laws.specs.There.{has_entry, AreNamesOf}
use Rattle.store_laws.specs.Changes.{FolderRemoved}
use Rattle.store_laws.specs.Says.{WhyNoFolderRemoved}
use Rattle.store_laws.specs.Outcomes.{ChangesOrStays}
use Rattle.store_laws.proofs.Names.Naming.{name_eq, name_other}
use Rattle.store_laws.proofs.Names.Differing.{names_kept}
use Rattle.store_laws.proofs.Steps.Entering.{room_cases, folder_cases, stays_in}
use Rattle.store_laws.proofs.Looks.Listings.{listing_names}

-- the room without this folder
abbrev pub without_folder : Room → Name → Room
without_folder room folder = record room { folders = filter (λ name. not (same_name name folder)) room.folders }

taken_out : (folder : Name) (names : List Name) → is_listed folder (filter (λ name. not (same_name name folder)) names) ≡ false
taken_out folder [] = refl
taken_out folder (x ∷ xs) = elim (same_name x folder) as (λ b. same_name x folder ≡ b → is_listed folder (cond (not b) (x ∷ filter (λ name. not (same_name name folder)) xs) (filter (λ name. not (same_name name folder)) xs)) ≡ false) [
  | true ↦ λ e. taken_out folder xs
  | false ↦ λ e. rw e (taken_out folder xs)
] refl

left_in : (folder other : Name) (names : List Name) → (other ≡ folder → ⊥) → is_listed other (filter (λ name. not (same_name name folder)) names) ≡ is_listed other names
left_in folder other [] apart = refl
left_in folder other (x ∷ xs) apart = elim (same_name x folder) as (λ b. same_name x folder ≡ b → is_listed other (cond (not b) (x ∷ filter (λ name. not (same_name name folder)) xs) (filter (λ name. not (same_name name folder)) xs)) ≡ (same_name x other || is_listed other xs)) [
  | true ↦ λ e.
      let is : x ≡ folder = name_eq x folder e in
      let differs : same_name x other ≡ false = name_other x other (λ same. apart (sym same ∙ is)) in
      rw differs (left_in folder other xs apart)
  | false ↦ λ e. ap (λ r. same_name x other || r) (left_in folder other xs apart)
] refl

or_none : (a b : Bool) → b ≡ false → (a || b) ≡ a
or_none true b e = refl
or_none false b e = e

neither : (file : Option (List ℕ)) (b : Bool) → false ≡ (is_some file || b) → file ≡ None
neither None b e = refl
neither (Some bytes) b e = absurd (cc)

no_entries : (room : Room) (folder name : Name) → listing room folder ≡ [] → has_entry room folder name ≡ false
no_entries room folder name e =
    let exact : is_listed name (listing room folder) ≡ has_entry room folder name = (listing_names room folder).exactly name in
    sym (subst (λ names. is_listed name names ≡ has_entry room folder name) e exact)

no_files : (room : Room) (folder name : Name) → listing room folder ≡ [] → file_at room (record { folder = folder; file = name }) ≡ None
no_files room folder name e = neither (file_at room (record { folder = folder; file = name })) (is_top folder && is_listed name room.folders) (sym (no_entries room folder name e))

-- how the step ends
abbrev Removes : Tree → ℕ → Name → Effect → Type 0
Removes tree n folder out = ChangesOrStays tree Made (FolderRemoved tree n folder) (WhyNoFolderRemoved tree n folder) out

by_listing : (tree : Tree) (n : ℕ) (folder : Name) (room : Room) → slice_get tree.rooms n ≡ Some room → has_folder room folder ≡ true → (names : List Name) → listing room folder ≡ names
    → Removes tree n folder (room_after tree n (removed_if_empty room folder names))
by_listing tree n folder room e there [] is = inl (
  refl,
  record {
    room = room;
    new = without_folder room folder;
    has_room = e;
    there = there;
    bare = λ name. no_entries room folder name is;
    empty = λ name. no_files room folder name is;
    gone = or_none (is_top folder) (is_listed folder (filter (λ name. not (same_name name folder)) room.folders)) (taken_out folder room.folders);
    others = record { name = refl; folders = λ other apart. ap (λ b. is_top other || b) (left_in folder other room.folders apart); files = refl };
    differ = λ d. names_kept (λ name. not (same_name name folder)) room.folders d;
    gives = refl;
  },
)
by_listing tree n folder room e there (least ∷ more) is =
    inr (stays_in tree n room (NotEmpty least) Made (WhyNoFolderRemoved tree n folder) e (λ m. cc)
    (more, record { room = room; has_room = e; there = there; entries = subst (AreNamesOf room folder) is (listing_names room folder) }))

-- a folder is removed, or the tree stays
pub remove_folder_cases : (tree : Tree) (n : ℕ) (folder : Name) → ChangesOrStays tree Made (FolderRemoved tree n folder) (WhyNoFolderRemoved tree n folder) (effect tree (remove_folder n folder))
remove_folder_cases tree n folder =
    room_cases tree n (λ r. folder_removed r folder) (Removes tree n folder)
    (λ none. inr record { same = refl; unmade = λ m. cc; why = none })
    (λ room e. folder_cases room folder (removed_if_empty room folder (listing room folder)) (λ out. Removes tree n folder (room_after tree n out))
    (λ none. inr (stays_in tree n room NoFolder Made (WhyNoFolderRemoved tree n folder) e (λ m. cc) record { room = room; has_room = e; none = none }))
    (λ there. by_listing tree n folder room e there (listing room folder) refl))
