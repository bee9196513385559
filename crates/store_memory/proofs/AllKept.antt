-- Of the first files, then of the first rooms, all is kept.
use Rattle.std.proofs.Common.{◌≡◌, ℕ, ◌+◌, ◌<◌, ◌++◌, length, take, drop, map, slice_get, slice_set, Some, ap, sym, ◌∙◌, arith}
use Rattle.store_api.specs.declared.tree.File.{File}
use Rattle.store_api.specs.declared.tree.Room.{Room}
use Rattle.store_api.specs.declared.tree.Tree.{Tree}
use Rattle.store_api.specs.Kept.{synced}
use Rattle.store_api.specs.AllKept.{room_kept}
use Rattle.store_memory.proofs.Places.{next_changed, length_changed}

-- the room with so many files kept
abbrev pub room_so_far : Room → ℕ → Room
room_so_far start i = record start { files = map synced (take i start.files) ++ drop i start.files }

pub room_next : (start now : Room) (i : ℕ) (old new : File) → now ≡ room_so_far start i → slice_get now.files i ≡ Some old → new ≡ synced old
    → record now { files = slice_set now.files i new } ≡ room_so_far start (i + 1)
room_next start now i old new is at n =
    ap (λ (r : Room). record r { files = slice_set r.files i new }) is
    ∙ ap (λ fs. record start { files = fs }) (ap (λ x. slice_set (map synced (take i start.files) ++ drop i start.files) i x) n ∙ next_changed synced start.files i old (ap (λ (r : Room). slice_get r.files i) (sym is) ∙ at))

pub room_within : (start now : Room) (i : ℕ) → now ≡ room_so_far start i → i < length start.files → i < length now.files
room_within start now i is l = omega (arith, l, ap (λ (r : Room). length r.files) is, length_changed synced start.files i)

-- the tree with so many rooms kept
abbrev pub tree_so_far : Tree → ℕ → Tree
tree_so_far start i = record { rooms = map room_kept (take i start.rooms) ++ drop i start.rooms }

pub tree_next : (start now : Tree) (i : ℕ) (old new : Room) → now ≡ tree_so_far start i → slice_get now.rooms i ≡ Some old → new ≡ room_kept old
    → record now { rooms = slice_set now.rooms i new } ≡ tree_so_far start (i + 1)
tree_next start now i old new is at n =
    ap (λ (t : Tree). record t { rooms = slice_set t.rooms i new }) is
    ∙ ap (λ rs. record start { rooms = rs }) (ap (λ x. slice_set (map room_kept (take i start.rooms) ++ drop i start.rooms) i x) n ∙ next_changed room_kept start.rooms i old (ap (λ (t : Tree). slice_get t.rooms i) (sym is) ∙ at))

pub tree_within : (start now : Tree) (i : ℕ) → now ≡ tree_so_far start i → i < length start.rooms → i < length now.rooms
tree_within start now i is l = omega (arith, l, ap (λ (t : Tree). length t.rooms) is, length_changed room_kept start.rooms i)
