-- What a file at an item's path says, in a room of a sound tree.
use Rattle.std.proofs.Common.{◌≡◌, ℕ, List, [], true, slice_get, Some, None, refl, sym, ap, ◌∙◌, subst}
use Rattle.container_layout.specs.declared.items.Item.{Item}
use Rattle.container_layout.specs.Items.{IsItem}
use Rattle.container_layout.specs.Paths.{path_of, IsAt}
use Rattle.container_layout.proofs.Facts.{one_item}
use Rattle.store_api.specs.declared.tree.Room.{Room}
use Rattle.store_api.specs.declared.tree.Tree.{Tree}
use Rattle.store_api.specs.Room.{has_folder}
use Rattle.store_laws.specs.Files.{file_at}
use Rattle.mount_sound.specs.Marks.{IsOfMark}
use Rattle.mount_sound.specs.Container.{MayHold, IsOfId, IsContainer}
use Rattle.mount_sound.specs.Shape.{IsShapedTree, IsDrawnBy, IsShaped}
use Rattle.mount_model.specs.State.{State, last_id}
use Rattle.mount_sound.proofs.Shapes.Trees.{IsShapedFor, shape_of, container_at, room_kept}

-- a container has the item's file, with bytes that it may hold
pub record Holds (allowed : ℕ → Type 0) (room : Room) (item : Item) (bytes : List ℕ) : Type 0 where
  pub holds : MayHold item bytes
  pub id : IsOfId allowed item
  pub housed : has_folder room (path_of item).folder ≡ true

pub item_held : (allowed : ℕ → Type 0) (room : Room) (item : Item) (bytes : List ℕ) → IsContainer allowed room → IsItem item → file_at room (path_of item) ≡ Some bytes → Holds allowed room item bytes
item_held allowed room item bytes c is there =
    let f = c.files (path_of item) bytes there in
    let own : IsAt (path_of item) item = record { is_item = is; printed = refl } in
    let same : f.item ≡ item = one_item (path_of item) f.item item f.is_at own in
    record {
      holds = subst (λ i. MayHold i bytes) same f.holds;
      id = subst (IsOfId allowed) same f.id;
      housed = f.housed;
    }

-- the id in the name of an item that stands in a container was drawn
pub item_drawn : (state : State) (tree : Tree) (number : ℕ) (room : Room) (item : Item) (bytes : List ℕ) → IsShaped state → state.store.tree ≡ Some tree → slice_get tree.rooms number ≡ Some room → (number ≡ state.marks → ⊥)
    → IsItem item → file_at room (path_of item) ≡ Some bytes → IsOfId (IsDrawnBy (last_id state) tree) item
item_drawn state tree number room item bytes shape told there apart is at =
    let both : Some shape.tree ≡ Some tree = sym shape.told ∙ told in
    let same : shape.tree ≡ tree = cc in
    let s : IsShapedFor (last_id state) state.marks state.mount tree = subst (IsShapedFor (last_id state) state.marks state.mount) same (shape_of state shape) in
    (item_held (IsDrawnBy (last_id state) tree) room item bytes (container_at (last_id state) state.marks state.mount number tree room s apart there) is at).id

-- ---- trees that no mount is over

-- a tree with no rooms
pub empty_shaped : (tree : Tree) → tree.rooms ≡ [] → IsShapedTree (IsOfMark tree) tree
empty_shaped tree none = record {
  rooms_differ = λ m n a b at_m at_n same. absurd (no_room m a at_m);
  rooms = λ n room at. absurd (no_room n room at);
}
  where
    no_room : (n : ℕ) (room : Room) → slice_get tree.rooms n ≡ Some room → ⊥
    no_room n room at = let both : None ≡ Some room = ap (λ rooms. slice_get rooms n) (sym none) ∙ at in cc

-- the tree that a mount leaves
pub left_shaped : (state : State) (shape : IsShaped state) → IsShapedTree (IsOfMark shape.tree) shape.tree
left_shaped state shape = record {
  rooms_differ = shape.shaped.rooms_differ;
  rooms = λ n room there. room_kept (IsDrawnBy (last_id state) shape.tree) (IsOfMark shape.tree) room (λ id drawn. drawn.0) (shape.shaped.rooms n room there);
}
