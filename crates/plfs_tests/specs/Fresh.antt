-- A store without a room.
use Rattle.std.specs.Prelude.{◌≡◌, []}
use Rattle.store_memory.specs.declared.store.MemoryStore.{MemoryStore}
use Rattle.store_memory.specs.MemoryStore.{tree_in}

abbrev pub IsFresh : MemoryStore → Type 0
IsFresh store = (tree_in store).rooms ≡ []
