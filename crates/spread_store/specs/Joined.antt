-- The tree that several stores hold as one.
use Rattle.std.specs.Prelude.{◌+◌, ◌++◌, ℕ, Bool, true, cond, ◌&&◌, List, [], ◌∷◌, map, filter, Option, Some, None, slice_get, is_some}
use Rattle.store_api.specs.declared.tree.Room.{Room}
use Rattle.store_api.specs.declared.tree.Tree.{Tree}
use Rattle.store_api.specs.Names.{same_name}
use Rattle.store_api.specs.Acts.{Stored}
use Rattle.spread_store.specs.declared.places.Place.{Place}
use Rattle.spread_store.specs.declared.places.Doubt.{Doubt}

-- what the stores hold, each where it tells
abbrev pub Held : Type 0
Held = List (Option Tree)

abbrev pub held_by : List Stored → Held
held_by stores = map (λ (s : Stored). s.tree) stores

-- all of them tell
abbrev pub all_tell : Held → Bool
all_tell [] = true
all_tell (tree ∷ trees) = is_some tree && all_tell trees

-- how often they have failed
abbrev pub faults_of : List Stored → ℕ
faults_of [] = 0
faults_of (store ∷ stores) = store.faults + faults_of stores

abbrev pub rooms_of : Option (Option Tree) → List Room
rooms_of (Some (Some tree)) = tree.rooms
rooms_of (Some None) = []
rooms_of None = []

-- the rooms of the store of this number
abbrev pub rooms_in : Held → ℕ → List Room
rooms_in held store = rooms_of (slice_get held store)

-- the room at a place
abbrev pub room_at : Held → Place → Option Room
room_at held place = slice_get (rooms_in held place.store) place.room

abbrev pub or_blank : Option Room → Room
or_blank (Some room) = room
or_blank None = record { name = []; folders = []; files = [] }

-- the rooms at the places
abbrev pub rooms_at : Held → List Place → List Room
rooms_at held places = map (λ p. or_blank (room_at held p)) places

-- and behind them the room that may have been made, where it is there
abbrev pub with_doubted : Held → Option Doubt → List Room → List Room
with_doubted held None rooms = rooms
with_doubted held (Some doubt) rooms = rooms ++ filter (λ (r : Room). same_name r.name doubt.name) (rooms_in held doubt.store)

-- what the stores hold, and where their rooms lie
pub record Spreading : Type 0 where
  pub stores : List Stored
  pub places : List Place
  pub doubt : Option Doubt

abbrev pub spreading : List Stored → List Place → Option Doubt → Spreading
spreading stores places doubt = record { stores = stores; places = places; doubt = doubt }

-- the rooms by their numbers, and behind them the one in doubt
abbrev pub joined : Held → List Place → Option Doubt → Tree
joined held places doubt = record { rooms = with_doubted held doubt (rooms_at held places) }

-- the stores as one tree, where all of them tell
abbrev pub tree_of : Spreading → Option Tree
tree_of s = cond (all_tell (held_by s.stores)) (Some (joined (held_by s.stores) s.places s.doubt)) None
