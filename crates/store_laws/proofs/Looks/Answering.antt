-- Steps that change nothing: what their answers tell.
use Rattle.std.proofs.Common.{◌≡◌, ℕ, true, false, ◌||◌, List, [], ◌∷◌, length, map, take, drop, slice_get, Option, Some, None, refl, ap, sym, ◌∙◌, subst}
use Rattle.std.specs.Prelude.{Result, Ok, Err}
use Rattle.std.specs.List.{list_any}
use Rattle.plfs_types.specs.declared.names.Path.{Path}
use Rattle.store_api.specs.declared.tree.File.{File}
use Rattle.store_api.specs.declared.tree.Room.{Room}
use Rattle.store_api.specs.declared.tree.Tree.{Tree}
use Rattle.store_api.specs.declared.step.Answer.{Answer}
use Rattle.store_api.specs.declared.step.Answer.TheVariants.{Absent, NoRoom, NoFolder, Names, Number, Bytes}
use Rattle.store_api.specs.declared.store.Trouble.{Trouble}
use Rattle.store_api.specs.declared.store.Trouble.TheVariants.{Fault, NoMemory}
use Rattle.store_api.specs.Step.{Step, Name, rooms, find_room, make_room, rename_room, make_folder, remove_folder, list_folder, create, remove, replace, length_of, read_at, write_at, cut, sync as sync_file}
use Rattle.store_api.specs.Names.{same_name}
use Rattle.store_api.specs.Room.{stays, has_folder, listing, folder_listed, in_file}
use Rattle.store_api.specs.Effect.{Effect, effect, tree_after, number_of, number_or_absent, room_after, in_room}
use Rattle.store_api.specs.Leaves.{MayLeave, not_made, whole, in_part, with_first}
use Rattle.store_laws.specs.Files.{file_at}
use Rattle.store_laws.specs.Differ.{is_listed}
use Rattle.store_laws.specs.Tells.{Tells}
use Rattle.store_laws.specs.Says.{RoomsTell, FindTells, ListTells, LengthTells, ReadTells}
use Rattle.store_laws.specs.Outcomes.{IsLook, Looks}
use Rattle.store_laws.proofs.Steps.Rooms.{file_at_found, file_at_none}
use Rattle.store_laws.proofs.Steps.Entering.{room_cases, folder_cases, file_cases, same_room}
use Rattle.store_laws.proofs.Names.ByteOrder.{listed_in_order, in_order}
use Rattle.store_laws.proofs.Looks.Listings.{listing_names}
use Rattle.store_laws.proofs.Steps.NewRooms.{numbered, unnumbered}

-- ---- rooms

room_names : (name : Name) (rooms : List Room) → is_listed name (map (λ (r : Room). r.name) rooms) ≡ list_any (λ (r : Room). same_name r.name name) rooms
room_names name [] = refl
room_names name (room ∷ rest) = ap (λ b. same_name room.name name || b) (room_names name rest)

pub rooms_tell : (tree : Tree) → Looks tree (RoomsTell tree) (effect tree rooms)
rooms_tell tree = record {
  same = refl;
  says_so = record {
    exactly = λ name. listed_in_order name (map (λ (r : Room). r.name) tree.rooms) ∙ room_names name tree.rooms;
    ordered = in_order (map (λ (r : Room). r.name) tree.rooms);
  };
}

by_number : (tree : Tree) (name : Name) (number : Option ℕ) → number_of tree name ≡ number → FindTells tree name (number_or_absent number)
by_number tree name None e = unnumbered tree name e
by_number tree name (Some n) e = numbered tree name n e

pub find_tells : (tree : Tree) (name : Name) → Looks tree (FindTells tree name) (effect tree (find_room name))
find_tells tree name = record { same = refl; says_so = by_number tree name (number_of tree name) refl }

-- ---- folders and files

stays_there : (tree : Tree) (n : ℕ) (room : Room) (answer : Answer) (says : Answer → Type 0) → slice_get tree.rooms n ≡ Some room → says answer → Looks tree says (room_after tree n (stays room answer))
stays_there tree n room answer says e why = record { same = same_room tree n room e; says_so = why }

pub list_tells : (tree : Tree) (n : ℕ) (folder : Name) → Looks tree (ListTells tree n folder) (effect tree (list_folder n folder))
list_tells tree n folder =
    room_cases tree n (λ r. folder_listed r folder) (Looks tree (ListTells tree n folder))
    (λ none. record { same = refl; says_so = none })
    (λ room e. folder_cases room folder (stays room (Names (listing room folder))) (λ out. Looks tree (ListTells tree n folder) (room_after tree n out))
    (λ none. stays_there tree n room NoFolder (ListTells tree n folder) e record { room = room; has_room = e; none = none })
    (λ there. stays_there tree n room (Names (listing room folder)) (ListTells tree n folder) e record { room = room; has_room = e; there = there; entries = listing_names room folder }))

-- a step that tells something of a file that is there
module _ (tree : Tree) (n : ℕ) (path : Path) (tell : File → Answer) (says : Answer → Type 0)
    (no_room : slice_get tree.rooms n ≡ None → says NoRoom)
    (no_folder : (room : Room) → slice_get tree.rooms n ≡ Some room → has_folder room path.folder ≡ false → says NoFolder)
    (no_file : (room : Room) → slice_get tree.rooms n ≡ Some room → has_folder room path.folder ≡ true → file_at room path ≡ None → says Absent)
    (told : (room : Room) (file : File) → slice_get tree.rooms n ≡ Some room → has_folder room path.folder ≡ true → file_at room path ≡ Some file.bytes → says (tell file)) where
  file_tells : Looks tree says (in_room tree n (λ r. in_file r path.folder path.file (λ place file. stays r (tell file))))
  file_tells =
      room_cases tree n (λ r. in_file r path.folder path.file (λ place file. stays r (tell file))) (Looks tree says)
      (λ none. record { same = refl; says_so = no_room none })
      (λ room e. file_cases room path (λ place file. stays room (tell file)) (λ out. Looks tree says (room_after tree n out))
      (λ none. stays_there tree n room NoFolder says e (no_folder room e none))
      (λ there none. stays_there tree n room Absent says e (no_file room e there (file_at_none room path none)))
      (λ place file there f. stays_there tree n room (tell file) says e (told room file e there (file_at_found room path file f.found))))

pub length_tells : (tree : Tree) (n : ℕ) (path : Path) → Looks tree (LengthTells tree n path) (effect tree (length_of n path.folder path.file))
length_tells tree n path =
    file_tells tree n path (λ file. Number (length file.bytes)) (LengthTells tree n path)
    (λ none. none)
    (λ room e none. record { room = room; has_room = e; none = none })
    (λ room e there none. record { room = room; has_room = e; folder = there; none = none })
    (λ room file e there is. (record { room = room; bytes = file.bytes; has_room = e; folder = there; there = is }, refl))

pub read_tells : (tree : Tree) (n : ℕ) (path : Path) (at len : ℕ) → Looks tree (ReadTells tree n path at len) (effect tree (read_at n path.folder path.file at len))
read_tells tree n path at len =
    file_tells tree n path (λ file. Bytes (take len (drop at file.bytes))) (ReadTells tree n path at len)
    (λ none. none)
    (λ room e none. record { room = room; has_room = e; none = none })
    (λ room e there none. record { room = room; has_room = e; folder = there; none = none })
    (λ room file e there is. (record { room = room; bytes = file.bytes; has_room = e; folder = there; there = is }, refl))

-- ---- the tree stays, whatever is told

pub look_same : (step : Step) (tree : Tree) → IsLook step → tree_after tree step ≡ tree
look_same rooms tree look = refl
look_same (find_room name) tree look = refl
look_same (make_room name folders files) tree look = absurd look
look_same (rename_room n to) tree look = absurd look
look_same (make_folder n folder) tree look = absurd look
look_same (remove_folder n folder) tree look = absurd look
look_same (list_folder n folder) tree look = (list_tells tree n folder).same
look_same (create n folder file) tree look = absurd look
look_same (remove n folder file) tree look = absurd look
look_same (replace n folder from to) tree look = absurd look
look_same (length_of n folder file) tree look = (length_tells tree n (record { folder = folder; file = file })).same
look_same (read_at n folder file at len) tree look = (read_tells tree n (record { folder = folder; file = file }) at len).same
look_same (write_at n folder file at bytes) tree look = absurd look
look_same (cut n folder file len) tree look = absurd look
look_same (sync_file n folder file) tree look = absurd look

look_whole : (step : Step) (k : ℕ) → IsLook step → with_first k step ≡ step
look_whole (write_at n folder file at bytes) k look = absurd look
look_whole step k look = refl

look_leaves : (step : Step) (tree after : Tree) → IsLook step → MayLeave tree step after → after ≡ tree
look_leaves step tree after look (not_made e) = e
look_leaves step tree after look (whole e) = e ∙ look_same step tree look
look_leaves step tree after look (in_part k m e) = e ∙ ap (λ s. tree_after tree s) (look_whole step k look) ∙ look_same step tree look

-- a look leaves the tree, whatever it tells
pub look_told : (step : Step) (tree : Tree) (told : Result Answer Trouble) (after : Tree) → IsLook step → Tells step tree told after → after ≡ tree
look_told step tree (Ok answer) after look t = sym (ap (λ (x : Effect). x.tree) t) ∙ look_same step tree look
look_told step tree (Err Fault) after look t = look_leaves step tree after look t
look_told step tree (Err NoMemory) after look t = t

-- an answer to a look tells of the tree
pub look_answered : (step : Step) (tree : Tree) (says : Answer → Type 0) → Looks tree says (effect tree step) → (answer : Answer) (after : Tree) → Tells step tree (Ok answer) after → (after ≡ tree) × says answer
look_answered step tree says l answer after t = (sym (ap (λ (x : Effect). x.tree) t) ∙ l.same, subst says (ap (λ (x : Effect). x.answer) t) l.says_so)
