-- What is complained of the items of a container, of a room, and of rooms one after the other.
use Rattle.std.specs.Prelude.{◌≡◌, ◌⊎◌, ℕ, List, [], ◌∷◌, ◌++◌, true, Option, Result, Ok, Err}
use Rattle.std.specs.List.{AllByRecursion}
use Rattle.plfs_types.specs.declared.names.Path.{Path}
use Rattle.store_api.specs.declared.tree.Room.{Room}
use Rattle.store_api.specs.declared.tree.Tree.{Tree}
use Rattle.store_api.specs.Acts.{Stored}
use Rattle.mount_model.specs.Paths.{Name}
use Rattle.tree_laws.specs.Complaints.{IsBroken, InRoomOf}
use Rattle.shape_check.specs.declared.finding.Complaint.{Complaint}
use Rattle.shape_check.specs.declared.finding.Finding.{Finding}
use Rattle.shape_check.specs.declared.finding.Finding.TheVariants.{Broken, Fault, NoMemory, Untold}
use Rattle.shape_check.specs.Places.{HasMarks}
use Rattle.shape_check.specs.Rightness.{complaint_of, is_of_shape, room_of}
use Rattle.shape_check.specs.Seeing.{IsSeen}
use Rattle.shape_check.specs.Shape.{HasShape}
use Rattle.tree_check.specs.Concerning.{IsOfItemAt}
use Rattle.tree_check.specs.Known.{IsRightAt}
use Rattle.tree_check.specs.Rooms.{IsCheckedContainer, IsRightRoom}

-- the complaint is right of the tree
abbrev pub IsRightOf : Tree → Complaint → Type 0
IsRightOf tree complaint = IsBroken tree (complaint_of complaint)

-- the same, and it is of this room
abbrev pub IsRightIn : Tree → Name → Complaint → Type 0
IsRightIn tree name complaint = IsRightOf tree complaint × (room_of complaint ≡ name)

-- the same, and it is of the item at this path
abbrev pub IsRightOfItem : Tree → Room → Path → Complaint → Type 0
IsRightOfItem tree room path complaint = IsRightIn tree room.name complaint × IsOfItemAt path room complaint

-- Q holds of each of these paths, in their order, or one complaint is told of which R holds with the path. Nothing else is told.
abbrev pub TellsOfEach : (Path → Complaint → Type 0) → (Path → Type 0) → List Path → List Complaint → Type 0
TellsOfEach R Q [] [] = Unit {0}
TellsOfEach R Q [] (complaint ∷ found) = ⊥
TellsOfEach R Q (path ∷ paths) found =
    (Q path × TellsOfEach R Q paths found)
    ⊎ ((complaint : Complaint) × (rest : List Complaint) × (found ≡ complaint ∷ rest) × R path complaint × TellsOfEach R Q paths rest)

-- the item at each of these paths is right, or one complaint is told that is right and of this item
abbrev pub TellsOfItems : List Path → List Complaint → Tree → Room → Type 0
TellsOfItems paths found tree room = TellsOfEach (IsRightOfItem tree room) (λ path. IsRightAt path tree room) paths found

-- the container has the shape of one in a sound tree, and of each of its items that isn't right one complaint is told
pub record TellsOfContainer (found : List Complaint) (tree : Tree) (room : Room) : Type 0 where
  pub paths : List Path
  pub shape : HasShape paths tree room
  pub each : TellsOfItems paths found tree room
  pub none : found ≡ [] → IsCheckedContainer tree room

-- It is as in a sound tree, and nothing is told. Or that is told of a container.
abbrev pub TellsOfRoom : List Complaint → Tree → Room → Type 0
TellsOfRoom found tree room = (IsRightRoom tree room × (found ≡ [])) ⊎ TellsOfContainer found tree room

-- the room of this name is there, and so it is of it, in a tree that listings show whole
abbrev pub InNamed : (Tree → Room → Type 0) → Option ℕ → Name → Stored → Type 0
InNamed Q marks name stored = (tree : Tree) → IsSeen stored tree → HasMarks marks tree → InRoomOf tree name (Q tree)

-- it is one complaint, of the room's shape
abbrev pub IsOfItsShape : List Complaint → Type 0
IsOfItsShape found = (complaint : Complaint) × (found ≡ complaint ∷ []) × (is_of_shape complaint ≡ true)

-- What is told of the room of this name.
pub record IsToldOf (found : List Complaint) (name : Name) (tree : Tree) : Type 0 where
  -- each complaint is right, and of this room
  pub right : AllByRecursion (IsRightIn tree name) found
  -- there is one, unless the room is as in a sound tree
  pub none : found ≡ [] → InRoomOf tree name (IsRightRoom tree)
  -- there is one of its shape, or else one for each item that isn't right
  pub each : IsOfItsShape found ⊎ InRoomOf tree name (TellsOfRoom found tree)

-- what is told of rooms of these names, of one behind the other
abbrev pub AreToldOf : Tree → List Name → List Complaint → Type 0
AreToldOf tree [] found = found ≡ []
AreToldOf tree (name ∷ names) found = (first : List Complaint) × (rest : List Complaint) × (found ≡ first ++ rest) × IsToldOf first name tree × AreToldOf tree names rest

-- ---- in the program

-- what was found wrong comes to the list, and nothing else does
abbrev pub HasNoted : Result Unit Finding → List Complaint → List Complaint → Type 0
HasNoted (Ok done) old new = new ≡ old
HasNoted (Err (Broken complaint)) old new = new ≡ old ++ complaint ∷ []
HasNoted (Err Fault) old new = ⊥
HasNoted (Err NoMemory) old new = ⊥
HasNoted (Err Untold) old new = ⊥

-- the first complaint of the list was found
abbrev pub IsFirstOf : List Complaint → Finding → Type 0
IsFirstOf found finding = (complaint : Complaint) × (rest : List Complaint) × (finding ≡ Broken complaint) × (found ≡ complaint ∷ rest)

-- the list is of the complaint that was found
abbrev pub IsOneFound : Finding → List Complaint → Type 0
IsOneFound finding found = (complaint : Complaint) × (finding ≡ Broken complaint) × (found ≡ complaint ∷ [])
