-- What a store on a folder tells.
use Rattle.std.specs.Prelude.{ℕ, List, string_bytes}
use Rattle.store_api.specs.Acts.{Stored}
use Rattle.store_folder.specs.declared.store.StoreByCalls.{StoreByCalls}
use Rattle.store_folder.specs.Counting.{untold}

-- its counts, and no tree
abbrev pub stored_of : {C F : Type 0} → StoreByCalls C F → Stored
stored_of store = untold store.counts.acts store.counts.faults

-- how many files it keeps open at most
abbrev pub most_of : {C F : Type 0} → StoreByCalls C F → ℕ
most_of store = store.disk.open.files.cap

-- the path of its folder
abbrev pub root_of : {C F : Type 0} → StoreByCalls C F → List ℕ
root_of store = string_bytes store.disk.root
