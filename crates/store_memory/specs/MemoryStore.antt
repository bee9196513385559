-- The parts of a store in memory.
use Rattle.std.specs.Prelude.{ℕ, nat_lt, ◌==◌, Bool, false, Option, Some, None, List, find}
use Rattle.store_api.specs.declared.tree.Tree.{Tree}
use Rattle.store_api.specs.Acts.{Stored}
use Rattle.store_memory.specs.declared.store.Fail.{Fail}
use Rattle.store_memory.specs.declared.store.MemoryStore.{MemoryStore}

-- what it holds
abbrev pub tree_in : MemoryStore → Tree
tree_in store = store.tree

-- how many acts were answered otherwise than by want of memory
abbrev pub acts_of : MemoryStore → ℕ
acts_of store = store.acts

-- how often it has failed
abbrev pub faults_of : MemoryStore → ℕ
faults_of store = store.faults

-- its planned faults
abbrev pub fails_of : MemoryStore → List Fail
fails_of store = store.fails

-- the first planned fault of the act that comes next
abbrev pub next_fail : MemoryStore → Option Fail
next_fail store = find (λ fail. fail.act == acts_of store) (fails_of store)

-- the act in which its power goes off, where that is planned
abbrev pub last_of : MemoryStore → Option ℕ
last_of store = store.last

-- whether so many acts are more than those up to that one
abbrev pub is_past : ℕ → Option ℕ → Bool
is_past acts None = false
is_past acts (Some last) = nat_lt last acts

-- whether its power is off: that act was made
abbrev pub is_off : MemoryStore → Bool
is_off store = is_past (acts_of store) (last_of store)

-- what contracts of a store see of it
abbrev pub stored_in : MemoryStore → Stored
stored_in store = record { tree = Some (tree_in store); acts = acts_of store; faults = faults_of store }
