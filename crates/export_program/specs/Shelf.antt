-- What is done where files are kept under names.
use Rattle.std.specs.Prelude.{◌≡◌, ℕ, Bool, true, false, List, [], ◌∷◌, Option, Some, None, Result, Ok, Err, IfSome}
use Rattle.plfs_types.specs.declared.memory.NoMemory.{NoMemory}
use Rattle.edge_io.specs.Sink.{Taking}
use Rattle.export_program.specs.declared.shelf.Unmade.{Unmade}

-- No file of this name was made. Or one was kept, with these bytes where it tells them. Or one could not be kept, or not for want of memory.
pub data Deed : Type 0 where
  unmade : List ℕ → Unmade → Deed
  kept : List ℕ → Option (List ℕ) → Deed
  unkept : List ℕ → Deed
  starved : List ℕ → Deed

-- told deeds grow by this one; deeds that aren't told stay untold
abbrev pub Adds : Deed → Option (List Deed) → Option (List Deed) → Type 0
Adds deed None new = new ≡ None
Adds deed (Some old) new = new ≡ Some (deed ∷ old)

-- it has taken no byte, where it tells that
abbrev pub IsEmpty : Taking → Type 0
IsEmpty taking = IfSome taking.taken (λ bytes. bytes ≡ [])

abbrev pub Makes : {F : Type 0} → (F → Taking) → List ℕ → Option (List Deed) → Option (List Deed) → Result F Unmade → Type 0
Makes taking name old new (Ok file) = IsEmpty (taking file) × (new ≡ old)
Makes taking name old new (Err why) = Adds (unmade name why) old new

abbrev pub Keeps : List ℕ → Taking → Option (List Deed) → Option (List Deed) → Result Bool NoMemory → Type 0
Keeps name taking old new (Ok true) = Adds (kept name taking.taken) old new
Keeps name taking old new (Ok false) = Adds (unkept name) old new
Keeps name taking old new (Err refused) = Adds (starved name) old new
