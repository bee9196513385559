-- What is left of a tree is one of its losses.
use Rattle.std.proofs.Common.{◌≡◌, ℕ, ◌+◌, ◌<◌, zero, suc, List, [], ◌∷◌, ◌++◌, length, take, drop, map, min, slice_get, slice_set, Some, refl, ap, sym, ◌∙◌, arith}
use Rattle.std.proofs.lemmas.List.{length-take-le}
use Rattle.store_api.specs.declared.tree.File.{File}
use Rattle.store_api.specs.declared.tree.Room.{Room}
use Rattle.store_api.specs.declared.tree.Tree.{Tree}
use Rattle.store_api.specs.Loss.{LosesFile, LoseFiles, LoseRooms, Loses}
use Rattle.store_memory.specs.declared.losing.Keep.{Keep}
use Rattle.store_memory.proofs.Places.{next_changed, length_changed}
use Rattle.store_memory.specs.Lost.{left_of, extra_for, lost_file, lost_room, lost_rooms, lost}

loses_file : (extra : ℕ) (file : File) → LosesFile file (left_of extra file)
loses_file extra file =
    let n : ℕ = min (file.kept + extra) (length file.bytes) in
    let len : length (take n file.bytes) ≡ n = length-take-le n file.bytes (omega arith) in
    record { path = refl; first = ap (λ k. take k file.bytes) (sym len); long = omega (arith, len); kept = sym len }

lose_files : (keeps : List Keep) (number : ℕ) (files : List File) → LoseFiles files (map (lost_file keeps number) files)
lose_files keeps number [] = refl
lose_files keeps number (file ∷ files) = (lost_file keeps number file, map (lost_file keeps number) files, refl, loses_file _ file, lose_files keeps number files)

lose_rooms : (keeps : List Keep) (number : ℕ) (rooms : List Room) → LoseRooms rooms (lost_rooms keeps number rooms)
lose_rooms keeps number [] = refl
lose_rooms keeps number (room ∷ rooms) =
    (lost_room keeps number room, lost_rooms keeps (number + 1) rooms, refl, record { name = refl; folders = refl; files = lose_files keeps number room.files }, lose_rooms keeps (number + 1) rooms)

pub lost_loses : (keeps : List Keep) (tree : Tree) → Loses tree (lost keeps tree)
lost_loses keeps tree = lose_rooms keeps 0 tree.rooms

-- ---- place by place

-- so with rooms, which have their numbers
pub next_lost : (keeps : List Keep) (from : ℕ) (rooms : List Room) (i : ℕ) (old : Room) → slice_get (lost_rooms keeps from (take i rooms) ++ drop i rooms) i ≡ Some old → slice_set (lost_rooms keeps from (take i rooms) ++ drop i rooms) i (lost_room keeps (from + i) old) ≡ lost_rooms keeps from (take (i + 1) rooms) ++ drop (i + 1) rooms
next_lost keeps from [] zero old e = absurd (cc)
next_lost keeps from (x ∷ xs) zero old e =
    let same : x ≡ old = cc in
    let here : from + 0 ≡ from = omega arith in
    rw here (ap (λ y. lost_room keeps from y ∷ xs) (sym same))
next_lost keeps from [] (suc i) old e = absurd (cc)
next_lost keeps from (x ∷ xs) (suc i) old e =
    let more : suc i + 1 ≡ suc (i + 1) = omega arith in
    let at : from + suc i ≡ from + 1 + i = omega arith in
    ap (λ n. slice_set (lost_room keeps from x ∷ (lost_rooms keeps (from + 1) (take i xs) ++ drop i xs)) (suc i) (lost_room keeps n old)) at
    ∙ ap (λ ys. lost_room keeps from x ∷ ys) (next_lost keeps (from + 1) xs i old e) ∙ ap (λ n. lost_rooms keeps from (take n (x ∷ xs)) ++ drop n (x ∷ xs)) (sym more)

length_lost : (keeps : List Keep) (from : ℕ) (rooms : List Room) (i : ℕ) → length (lost_rooms keeps from (take i rooms) ++ drop i rooms) ≡ length rooms
length_lost keeps from [] zero = refl
length_lost keeps from [] (suc i) = refl
length_lost keeps from (x ∷ xs) zero = refl
length_lost keeps from (x ∷ xs) (suc i) = ap (λ n. suc n) (length_lost keeps (from + 1) xs i)

-- the room in which so many files have lost
abbrev pub room_then : List Keep → ℕ → Room → ℕ → Room
room_then keeps number start i = record start { files = map (lost_file keeps number) (take i start.files) ++ drop i start.files }

pub room_next : (keeps : List Keep) (number : ℕ) (start now : Room) (i : ℕ) (old new : File) (extra : ℕ) → now ≡ room_then keeps number start i → slice_get now.files i ≡ Some old → extra ≡ extra_for keeps number old.path → new ≡ left_of extra old
    → record now { files = slice_set now.files i new } ≡ room_then keeps number start (i + 1)
room_next keeps number start now i old new extra is at e n =
    ap (λ (r : Room). record r { files = slice_set r.files i new }) is
    ∙ ap (λ fs. record start { files = fs }) (ap (λ x. slice_set (map (lost_file keeps number) (take i start.files) ++ drop i start.files) i x) (n ∙ ap (λ k. left_of k old) e) ∙ next_changed (lost_file keeps number) start.files i old (ap (λ (r : Room). slice_get r.files i) (sym is) ∙ at))

pub room_within : (keeps : List Keep) (number : ℕ) (start now : Room) (i : ℕ) → now ≡ room_then keeps number start i → i < length start.files → i < length now.files
room_within keeps number start now i is l = omega (arith, l, ap (λ (r : Room). length r.files) is, length_changed (lost_file keeps number) start.files i)

-- the tree in which so many rooms have
abbrev pub tree_then : List Keep → Tree → ℕ → Tree
tree_then keeps start i = record { rooms = lost_rooms keeps 0 (take i start.rooms) ++ drop i start.rooms }

pub tree_next : (keeps : List Keep) (start now : Tree) (i : ℕ) (old new : Room) → now ≡ tree_then keeps start i → slice_get now.rooms i ≡ Some old → new ≡ lost_room keeps i old
    → record now { rooms = slice_set now.rooms i new } ≡ tree_then keeps start (i + 1)
tree_next keeps start now i old new is at n =
    let zero_more : 0 + i ≡ i = omega arith in
    ap (λ (t : Tree). record t { rooms = slice_set t.rooms i new }) is
    ∙ ap (λ rs. record start { rooms = rs }) (ap (λ x. slice_set (lost_rooms keeps 0 (take i start.rooms) ++ drop i start.rooms) i x) (n ∙ ap (λ k. lost_room keeps k old) (sym zero_more)) ∙ next_lost keeps 0 start.rooms i old (ap (λ (t : Tree). slice_get t.rooms i) (sym is) ∙ at))

pub tree_within : (keeps : List Keep) (start now : Tree) (i : ℕ) → now ≡ tree_then keeps start i → i < length start.rooms → i < length now.rooms
tree_within keeps start now i is l = omega (arith, l, ap (λ (t : Tree). length t.rooms) is, length_lost keeps 0 start.rooms i)
