-- Stores without a room have no two rooms of one name.
use Rattle.std.proofs.Common.{◌≡◌, ℕ, zero, suc, All, List, [], ◌∷◌, map, slice_get, Some, subst}
use Rattle.std.specs.List.{AllByRecursion}
use Rattle.std.proofs.lemmas.List.Elements.{recursion_from_All}
use Rattle.store_api.specs.declared.tree.Tree.{Tree}
use Rattle.store_laws.specs.Differ.{RoomsDiffer}
use Rattle.store_memory.specs.declared.store.MemoryStore.{MemoryStore}
use Rattle.store_memory.specs.MemoryStore.{tree_in, stored_in}
use Rattle.spread_store.specs.Joined.{held_by}
use Rattle.spread_store.specs.Opening.{RoomsDifferInEach}
use Rattle.plfs_tests.specs.Fresh.{IsFresh}

fresh_in : (stores : List MemoryStore) (i : ℕ) (tree : Tree) → AllByRecursion IsFresh stores → slice_get (held_by (map stored_in stores)) i ≡ Some (Some tree) → tree.rooms ≡ []
fresh_in [] i tree all e = absurd (cc)
fresh_in (s ∷ stores) zero tree all e = let same : tree_in s ≡ tree = cc in subst (λ (t : Tree). t.rooms ≡ []) same all.0
fresh_in (s ∷ stores) (suc i) tree all e = fresh_in stores i tree all.1 e

no_rooms : (tree : Tree) → tree.rooms ≡ [] → RoomsDiffer tree
no_rooms tree none m n a b at_m at_n same = absurd (nothing (subst (λ rooms. slice_get rooms m ≡ Some a) none at_m))
  where
    nothing : slice_get [] m ≡ Some a → ⊥
    nothing = cc

pub fresh_apart : (stores : List MemoryStore) → All IsFresh stores → RoomsDifferInEach (held_by (map stored_in stores))
fresh_apart stores all i tree e = no_rooms tree (fresh_in stores i tree (recursion_from_All IsFresh stores all) e)
