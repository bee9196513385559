-- Steps that make a room, or give one another name.
use Rattle.std.proofs.Common.{◌≡◌, ◌<◌, ℕ, Bool, true, false, cond, ◌||◌, ◌&&◌, List, [], ◌∷◌, length, map, slice_get, Option, Some, None, refl, ap, ◌∙◌, inl, inr, subst, arith, if◌then◌else◌}
use Rattle.std.specs.Prelude.{option_map}
use Rattle.std.specs.List.{find, list_any}
use Rattle.std.proofs.lemmas.Bool.Decides.{nat_tests}
use Rattle.std.proofs.lemmas.List.Quantifiers.{position-Some}
use Rattle.std.proofs.lemmas.Option.{get_or_from_slice_get}
use Rattle.plfs_types.specs.declared.names.Path.{Path}
use Rattle.store_api.specs.declared.tree.File.{File}
use Rattle.store_api.specs.declared.tree.Room.{Room}
use Rattle.store_api.specs.declared.tree.Tree.{Tree}
use Rattle.store_api.specs.declared.step.Answer.TheVariants.{Made, TargetThere, Number}
use Rattle.store_api.specs.Step.{Name, make_room, rename_room}
use Rattle.store_api.specs.Names.{same_name}
use Rattle.store_api.specs.Kept.{empty_file}
use Rattle.store_api.specs.Room.{is_top, is_at}
use Rattle.store_api.specs.Effect.{Effect, effect, new_room, number_of, room_made, renamed, room_after}
use Rattle.store_laws.specs.Files.{file_at, kept_of, kept_at}
use Rattle.store_laws.specs.Differ.{is_listed, NamesDiffer, is_there, FilesDiffer}
use Rattle.store_laws.specs.There.{IsRoomOf, IsFree}
use Rattle.store_laws.specs.Changes.{RoomMade, RoomRenamed}
use Rattle.store_laws.specs.Says.{WhyNoRoomMade, WhyNotRenamed}
use Rattle.store_laws.specs.Outcomes.{ChangesOrStays}
use Rattle.store_laws.proofs.Names.Places.{item}
use Rattle.store_laws.proofs.Names.Naming.{name_eq, name_apart}
use Rattle.store_laws.proofs.Names.Searches.{find_unplaced, none_found, none_at}
use Rattle.store_laws.proofs.Steps.Entering.{room_cases, stays_in}

-- ---- the room of a name

pub numbered : (tree : Tree) (name : Name) (n : ℕ) → number_of tree name ≡ Some n → IsRoomOf tree name n
numbered tree name n e =
    let p : Room → Bool = λ r. same_name r.name name in
    let within : n < length tree.rooms = (position-Some p tree.rooms n (record { name = name; folders = []; files = [] }) e).0 in
    let room = item tree.rooms n within in
    let facts = position-Some p tree.rooms n room.0 e in
    record {
      room = room.0;
      has_room = room.1;
      named = name_eq room.0.name name (subst (λ (r : Room). same_name r.name name ≡ true) (get_or_from_slice_get tree.rooms n room.0 room.0 room.1) facts.1);
      first = λ k other less at same.
          let was = (position-Some p tree.rooms n other e).2 k less in
          let not_named : same_name other.name name ≡ false = subst (λ (r : Room). same_name r.name name ≡ false) (get_or_from_slice_get tree.rooms k other other at) was in
          name_apart other.name name not_named same;
    }

pub unnumbered : (tree : Tree) (name : Name) → number_of tree name ≡ None → IsFree tree name
unnumbered tree name e n room at same =
    let p : Room → Bool = λ r. same_name r.name name in
    let none : list_any p tree.rooms ≡ false = none_found p tree.rooms (find_unplaced p tree.rooms e) in
    name_apart room.name name (none_at p tree.rooms n room none at) same

-- ---- the files of a new room

top_named : (folder : Name) → is_top folder ≡ same_name [] folder
top_named [] = refl
top_named (x ∷ xs) = grind (arith, nat_tests)

abbrev bytes_of : Option File → Option (List ℕ)
bytes_of found = option_map (λ (f : File). f.bytes) found

by_tests : (a b r : Bool) (name : Name) (found : Option File) → bytes_of found ≡ (if a && r then Some [] else None) → bytes_of (cond (a && b) (Some (empty_file [] name)) found) ≡ (if a && (b || r) then Some [] else None)
by_tests true true r name found e = refl
by_tests true false r name found e = e
by_tests false b r name found e = e

none_of : (a : Bool) → ◌≡◌ {A = Option (List ℕ)} None (if a && false then Some [] else None)
none_of true = refl
none_of false = refl

new_files : (path : Path) (files : List Name) → bytes_of (find (is_at path.folder path.file) (map (empty_file []) files)) ≡ (if same_name [] path.folder && is_listed path.file files then Some [] else None)
new_files path [] = none_of (same_name [] path.folder)
new_files path (name ∷ names) =
    by_tests (same_name [] path.folder) (same_name name path.file) (is_listed path.file names) name (find (is_at path.folder path.file) (map (empty_file []) names)) (new_files path names)

has_files : (name : Name) (folders files : List Name) (path : Path) → file_at (new_room name folders files) path ≡ (if is_top path.folder && is_listed path.file files then Some [] else None)
unfolding file_at
has_files name folders files path = rw (top_named path.folder) (new_files path files)

none_kept : (path : Path) (files : List Name) → kept_of (find (is_at path.folder path.file) (map (empty_file []) files)) ≡ 0
none_kept path [] = refl
none_kept path (name ∷ names) = elim (is_at path.folder path.file (empty_file [] name)) as (λ b. kept_of (cond b (Some (empty_file [] name)) (find (is_at path.folder path.file) (map (empty_file []) names))) ≡ 0) [
  | true ↦ refl
  | false ↦ none_kept path names
]

new_kept : (name : Name) (folders files : List Name) (path : Path) → kept_at (new_room name folders files) path ≡ 0
unfolding kept_at
new_kept name folders files path = none_kept path files

none_there : (file : Name) (files : List Name) → is_there [] file (map (empty_file []) files) ≡ is_listed file files
none_there file [] = refl
none_there file (name ∷ names) = ap (λ r. same_name name file || r) (none_there file names)

new_differ : (files : List Name) → NamesDiffer files → FilesDiffer (map (empty_file []) files)
new_differ [] d = tt
new_differ (name ∷ names) d = (none_there name names ∙ d.0, new_differ names d.1)

-- ---- the steps

by_number : (tree : Tree) (name : Name) (folders files : List Name) (number : Option ℕ) → number_of tree name ≡ number
    → ChangesOrStays tree (Number (length tree.rooms)) (RoomMade tree name folders files) (WhyNoRoomMade tree name) (room_made tree (new_room name folders files) number)
by_number tree name folders files None e = inl (
  refl,
  record {
    new = new_room name folders files;
    free = unnumbered tree name e;
    named = refl;
    has_folders = refl;
    has_files = has_files name folders files;
    kept = new_kept name folders files;
    differ = λ d. new_differ files d;
    gives = refl;
  },
)
by_number tree name folders files (Some n) e = inr record { same = refl; unmade = λ m. cc; why = numbered tree name n e }

-- a room is made, or the tree stays
pub make_room_cases : (tree : Tree) (name : Name) (folders files : List Name) → ChangesOrStays tree (Number (length tree.rooms)) (RoomMade tree name folders files) (WhyNoRoomMade tree name) (effect tree (make_room name folders files))
make_room_cases tree name folders files = by_number tree name folders files (number_of tree name) refl

-- how a renaming ends
abbrev Renames : Tree → ℕ → Name → Effect → Type 0
Renames tree n to out = ChangesOrStays tree Made (RoomRenamed tree n to) (WhyNotRenamed tree n to) out

by_target : (tree : Tree) (n : ℕ) (to : Name) (room : Room) → slice_get tree.rooms n ≡ Some room → (number : Option ℕ) → number_of tree to ≡ number → Renames tree n to (room_after tree n (renamed room to number))
by_target tree n to room e None free = inl (
  refl,
  record {
    room = room;
    new = record room { name = to };
    has_room = e;
    free = unnumbered tree to free;
    named = refl;
    same_folders = refl;
    same_files = refl;
    gives = refl;
  },
)
by_target tree n to room e (Some k) is = inr (stays_in tree n room TargetThere Made (WhyNotRenamed tree n to) e (λ m. cc) (k, numbered tree to k is))

-- a room is renamed, or the tree stays
pub rename_room_cases : (tree : Tree) (n : ℕ) (to : Name) → ChangesOrStays tree Made (RoomRenamed tree n to) (WhyNotRenamed tree n to) (effect tree (rename_room n to))
rename_room_cases tree n to =
    room_cases tree n (λ r. renamed r to (number_of tree to)) (Renames tree n to)
    (λ none. inr record { same = refl; unmade = λ m. cc; why = none })
    (λ room e. by_target tree n to room e (number_of tree to) refl)
