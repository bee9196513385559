-- A tree keeps its shape where one room of it has changed, or one was added.
use Rattle.std.proofs.Common.{◌≡◌, ℕ, ◌<◌, ◌≤◌, ◌^◌, [], ◌∷◌, ◌++◌, slice_get, Some, refl, sym, ◌∙◌, ◌⊎◌, inl, inr, subst, arith}
use Rattle.store_api.specs.declared.tree.Room.{Room}
use Rattle.store_api.specs.declared.tree.Tree.{Tree}
use Rattle.store_laws.specs.Files.{file_at}
use Rattle.store_laws.specs.There.{IsFree}
use Rattle.store_laws.specs.Changes.{with_room}
use Rattle.store_laws.specs.Differ.{RoomsDiffer}
use Rattle.store_laws.proofs.Facts.{other_room, each_room, earlier_room, each_with_added, rooms_differ_kept, rooms_differ_renamed, rooms_differ_added}
use Rattle.mount_model.specs.Paths.{mark_path}
use Rattle.store_api.specs.Names.{marks_name}
use Rattle.mount_model.specs.State.{State, id_of, last_id}
use Rattle.mount_sound.specs.Marks.{IsMarksRoom, HasMark, IsOfMark}
use Rattle.mount_sound.specs.Container.{IsContainer}
use Rattle.mount_sound.specs.Shape.{IsShapedTree, IsDrawnBy, IsShaped}
use Rattle.mount_sound.proofs.Shapes.Containers.{container_wider}

-- the shape of a tree in which the mount has its mark in the room of this number, where this is the last id drawn
pub record IsShapedFor (last marks mount : ℕ) (tree : Tree) : Type 0 where
  pub shaped : IsShapedTree (IsDrawnBy last tree) tree
  pub room : Room
  pub has_room : slice_get tree.rooms marks ≡ Some room
  pub is_marks : IsMarksRoom room
  pub mark : file_at room (mark_path mount) ≡ Some []

pub shape_of : (state : State) (shape : IsShaped state) → IsShapedFor (last_id state) state.marks state.mount shape.tree
shape_of state shape = record { shaped = shape.shaped; room = shape.marks; has_room = shape.has_marks; is_marks = shape.is_marks; mark = shape.mark }

pub has_shape : (state : State) (tree : Tree) → state.store.tree ≡ Some tree → IsShapedFor (last_id state) state.marks state.mount tree → IsShaped state
has_shape state tree told s = record { tree = tree; told = told; shaped = s.shaped; marks = s.room; has_marks = s.has_room; is_marks = s.is_marks; mark = s.mark }

-- the mount's mark is there
pub own_mark : (last marks mount : ℕ) (tree : Tree) → IsShapedFor last marks mount tree → HasMark tree mount
own_mark last marks mount tree s = record { number = marks; room = s.room; there = s.has_room; named = s.is_marks.named; mark = s.mark }

-- so its serials up to the last one are those of ids that it has drawn
pub own_drawn : (mount serial last : ℕ) (tree : Tree) → HasMark tree mount → mount < 2 ^ 32 → last < 2 ^ 32 → 1 ≤ serial → serial ≤ last → IsDrawnBy (id_of mount last) tree (id_of mount serial)
own_drawn mount serial last tree mark mount_fits last_fits some within =
    (record { mount = mount; serial = serial; has_mark = mark; mount_fits = mount_fits; some = some; serial_fits = omega arith; is = refl }, omega arith)

-- only the marks' room has its name
only_marks : (last marks mount n : ℕ) (tree : Tree) (room : Room) → IsShapedFor last marks mount tree → slice_get tree.rooms n ≡ Some room → room.name ≡ marks_name → n ≡ marks
only_marks last marks mount n tree room s there named = s.shaped.rooms_differ n marks room s.room there s.has_room (named ∙ sym s.is_marks.named)

-- an id stays one of a mark, where the marks stay
pub of_mark_kept : (tree after : Tree) → ((mount : ℕ) → HasMark tree mount → HasMark after mount) → (id : ℕ) → IsOfMark tree id → IsOfMark after id
of_mark_kept tree after marks id o = record {
  mount = o.mount;
  serial = o.serial;
  has_mark = marks o.mount o.has_mark;
  mount_fits = o.mount_fits;
  some = o.some;
  serial_fits = o.serial_fits;
  is = o.is;
}

drawn_kept : (last last' : ℕ) (tree after : Tree) → last ≤ last' → ((mount : ℕ) → HasMark tree mount → HasMark after mount) → (id : ℕ) → IsDrawnBy last tree id → IsDrawnBy last' after id
drawn_kept last last' tree after grows marks id (of_mark, within) = (of_mark_kept tree after marks id of_mark, omega (arith, within, grows))

-- a room that is no container's stays so, and a container where more ids are allowed
pub room_kept : (few many : ℕ → Type 0) (room : Room) → ((id : ℕ) → few id → many id) → IsMarksRoom room ⊎ IsContainer few room → IsMarksRoom room ⊎ IsContainer many room
room_kept few many room more is = elim is as (λ _. IsMarksRoom room ⊎ IsContainer many room) [
  | inl m ↦ inl m
  | inr c ↦ inr (container_wider few many room more c)
]

-- the room of this number is a container
pub container_at : (last marks mount n : ℕ) (tree : Tree) (room : Room) → IsShapedFor last marks mount tree → (n ≡ marks → ⊥) → slice_get tree.rooms n ≡ Some room → IsContainer (IsDrawnBy last tree) room
container_at last marks mount n tree room s apart there = elim (s.shaped.rooms n room there) as (λ _. IsContainer (IsDrawnBy last tree) room) [
  | inl m ↦ absurd (apart (only_marks last marks mount n tree room s there m.named))
  | inr c ↦ c
]

-- ---- the same tree, after more serials

pub shape_later : (last last' marks mount : ℕ) (tree : Tree) → last ≤ last' → IsShapedFor last marks mount tree → IsShapedFor last' marks mount tree
shape_later last last' marks mount tree grows s = record {
  shaped = record {
    rooms_differ = s.shaped.rooms_differ;
    rooms = λ n room there. room_kept (IsDrawnBy last tree) (IsDrawnBy last' tree) room (drawn_kept last last' tree tree grows (λ m has. has)) (s.shaped.rooms n room there);
  };
  room = s.room;
  has_room = s.has_room;
  is_marks = s.is_marks;
  mark = s.mark;
}

-- ---- a room that has changed

module _ (last last' marks mount n : ℕ) (tree : Tree) (room new : Room) (grows : last ≤ last') (s : IsShapedFor last marks mount tree) (apart : n ≡ marks → ⊥) (there : slice_get tree.rooms n ≡ Some room) where
  has_mark_changed : (m : ℕ) → HasMark tree m → HasMark (with_room tree n new) m
  has_mark_changed m has = record {
    number = has.number;
    room = has.room;
    there = other_room tree n has.number new (λ same. apart (sym same ∙ only_marks last marks mount has.number tree has.room s has.there has.named)) ∙ has.there;
    named = has.named;
    mark = has.mark;
  }

  -- the tree keeps its shape, where the rooms' names differ and the room is a container again
  shape_turned : RoomsDiffer (with_room tree n new) → (((id : ℕ) → IsDrawnBy last' tree id → IsDrawnBy last' (with_room tree n new) id) → IsContainer (IsDrawnBy last' (with_room tree n new)) room → IsContainer (IsDrawnBy last' (with_room tree n new)) new)
      → IsShapedFor last' marks mount (with_room tree n new)
  shape_turned differ turns =
      let wider = drawn_kept last last' tree (with_room tree n new) grows has_mark_changed in
      let was = container_wider (IsDrawnBy last tree) (IsDrawnBy last' (with_room tree n new)) room wider (container_at last marks mount n tree room s apart there) in
      let is : IsContainer (IsDrawnBy last' (with_room tree n new)) new = turns (drawn_kept last' last' tree (with_room tree n new) (omega arith) has_mark_changed) was in
      record {
        shaped = record {
          rooms_differ = differ;
          rooms = λ k r at. elim (each_room tree n k room new r there at) as (λ _. IsMarksRoom r ⊎ IsContainer (IsDrawnBy last' (with_room tree n new)) r) [
            | inl here ↦ inr (subst (IsContainer (IsDrawnBy last' (with_room tree n new))) (sym here.1) is)
            | inr other ↦ room_kept (IsDrawnBy last tree) (IsDrawnBy last' (with_room tree n new)) r wider (s.shaped.rooms k r other.1)
          ];
        };
        room = s.room;
        has_room = other_room tree n marks new (λ same. apart (sym same)) ∙ s.has_room;
        is_marks = s.is_marks;
        mark = s.mark;
      }

  -- the room has its name
  pub shape_changed : new.name ≡ room.name → (((id : ℕ) → IsDrawnBy last' tree id → IsDrawnBy last' (with_room tree n new) id) → IsContainer (IsDrawnBy last' (with_room tree n new)) room → IsContainer (IsDrawnBy last' (with_room tree n new)) new)
      → IsShapedFor last' marks mount (with_room tree n new)
  shape_changed named turns = shape_turned (rooms_differ_kept tree n room new there named s.shaped.rooms_differ) turns

  -- the room has a name that none had
  pub shape_renamed : IsFree tree new.name → (IsContainer (IsDrawnBy last' (with_room tree n new)) room → IsContainer (IsDrawnBy last' (with_room tree n new)) new) → IsShapedFor last' marks mount (with_room tree n new)
  shape_renamed free turns = shape_turned (rooms_differ_renamed tree n room new there free s.shaped.rooms_differ) (λ more was. turns was)

-- ---- a room that was added

abbrev pub with_added : Tree → Room → Tree
with_added tree new = record { rooms = tree.rooms ++ new ∷ [] }

pub has_mark_added : (tree : Tree) (new : Room) (m : ℕ) → HasMark tree m → HasMark (with_added tree new) m
has_mark_added tree new m has = record {
  number = has.number;
  room = has.room;
  there = earlier_room tree has.number has.room new has.there;
  named = has.named;
  mark = has.mark;
}

module _ (last marks mount : ℕ) (tree : Tree) (new : Room) (s : IsShapedFor last marks mount tree) where
  -- the tree keeps its shape, where the room is a container of a name that none had
  pub shape_added : IsFree tree new.name → IsContainer (IsDrawnBy last (with_added tree new)) new → IsShapedFor last marks mount (with_added tree new)
  shape_added free is =
      let wider = drawn_kept last last tree (with_added tree new) (omega arith) (has_mark_added tree new) in
      record {
        shaped = record {
          rooms_differ = rooms_differ_added tree new free s.shaped.rooms_differ;
          rooms = λ k r at. elim (each_with_added tree k new r at) as (λ _. IsMarksRoom r ⊎ IsContainer (IsDrawnBy last (with_added tree new)) r) [
            | inl here ↦ inr (subst (IsContainer (IsDrawnBy last (with_added tree new))) (sym here.1) is)
            | inr other ↦ room_kept (IsDrawnBy last tree) (IsDrawnBy last (with_added tree new)) r wider (s.shaped.rooms k r other.1)
          ];
        };
        room = s.room;
        has_room = earlier_room tree marks s.room new s.has_room;
        is_marks = s.is_marks;
        mark = s.mark;
      }
