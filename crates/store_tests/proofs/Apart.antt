-- Rooms of different names, seen one after the other.
use Rattle.std.proofs.Common.{◌≡◌, ◌<◌, ◌≤◌, ◌+◌, ℕ, zero, suc, List, [], ◌∷◌, length, map, slice_get, Some, refl, ap, sym, ◌∙◌, subst, inl, inr, arith}
use Rattle.std.proofs.lemmas.Bool.{cases_eq}
use Rattle.std.proofs.lemmas.Option.{slice_get_within}
use Rattle.store_api.specs.declared.tree.Room.{Room}
use Rattle.store_api.specs.declared.tree.Tree.{Tree}
use Rattle.store_api.specs.Effect.{number_of}
use Rattle.store_laws.specs.Differ.{RoomsDiffer}
use Rattle.store_memory.specs.declared.store.MemoryStore.{MemoryStore}
use Rattle.store_memory.specs.MemoryStore.{tree_in, stored_in}
use Rattle.spread_store.specs.Joined.{held_by}
use Rattle.spread_store.specs.Opening.{RoomsDifferInEach}

-- each of the first rooms is the first of its name
abbrev pub AreFirst : Tree → ℕ → Type 0
AreFirst tree n = (i : ℕ) (room : Room) → i < n → slice_get tree.rooms i ≡ Some room → number_of tree room.name ≡ Some i

pub one_more_first : (tree : Tree) (n : ℕ) (room : Room) → AreFirst tree n → slice_get tree.rooms n ≡ Some room → number_of tree room.name ≡ Some n → AreFirst tree (n + 1)
one_more_first tree n room first there is i other below at = elim (cases_eq i n) as (λ _. number_of tree other.name ≡ Some i) [
  | inl here ↦
      let now : slice_get tree.rooms n ≡ Some other = subst (λ k. slice_get tree.rooms k ≡ Some other) here at in
      let both : Some room ≡ Some other = sym there ∙ now in
      let same : room ≡ other = cc in
      subst (λ (r : Room). number_of tree r.name ≡ Some i) same (subst (λ k. number_of tree room.name ≡ Some k) (sym here) is)
  | inr apart ↦ first i other (omega (arith, below, apart)) at
]

pub all_first : (tree : Tree) (n : ℕ) → length tree.rooms ≤ n → AreFirst tree n → RoomsDiffer tree
all_first tree n long first i j a b at_i at_j same =
    let in_i = slice_get_within tree.rooms i a at_i in
    let in_j = slice_get_within tree.rooms j b at_j in
    let one = first i a (omega (arith, in_i, long)) at_i in
    let two = first j b (omega (arith, in_j, long)) at_j in
    let both : Some i ≡ Some j = sym one ∙ ap (λ name. number_of tree name) same ∙ two in
    cc

-- in each of the first stores no two rooms have one name
abbrev pub AreApart : List MemoryStore → ℕ → Type 0
AreApart stores n = (i : ℕ) (store : MemoryStore) → i < n → slice_get stores i ≡ Some store → RoomsDiffer (tree_in store)

pub one_more_apart : (stores : List MemoryStore) (n : ℕ) (store : MemoryStore) → AreApart stores n → slice_get stores n ≡ Some store → RoomsDiffer (tree_in store) → AreApart stores (n + 1)
one_more_apart stores n store apart there differ i other below at = elim (cases_eq i n) as (λ _. RoomsDiffer (tree_in other)) [
  | inl here ↦
      let now : slice_get stores n ≡ Some other = subst (λ k. slice_get stores k ≡ Some other) here at in
      let both : Some store ≡ Some other = sym there ∙ now in
      let same : store ≡ other = cc in
      subst (λ s. RoomsDiffer (tree_in s)) same differ
  | inr before ↦ apart i other (omega (arith, below, before)) at
]

-- the store that tells this tree
told_by : (stores : List MemoryStore) (i : ℕ) (tree : Tree) → slice_get (held_by (map stored_in stores)) i ≡ Some (Some tree) → (store : MemoryStore) × (slice_get stores i ≡ Some store) × (tree_in store ≡ tree)
told_by [] i tree e = absurd (cc)
told_by (s ∷ stores) zero tree e = let same : tree_in s ≡ tree = cc in (s, refl, same)
told_by (s ∷ stores) (suc i) tree e = told_by stores i tree e

pub all_apart : (stores : List MemoryStore) (n : ℕ) → length stores ≤ n → AreApart stores n → RoomsDifferInEach (held_by (map stored_in stores))
all_apart stores n long apart i tree e =
    let by = told_by stores i tree e in
    let within = slice_get_within stores i by.0 by.1 in
    subst RoomsDiffer by.2 (apart i by.0 (omega (arith, within, long)) by.1)
