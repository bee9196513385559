-- How a store counts its acts and its faults.
use Rattle.std.specs.Prelude.{◌≡◌, ℕ, None, Result, Ok, Err}
use Rattle.store_api.specs.declared.step.Answer.{Answer}
use Rattle.store_api.specs.declared.store.Trouble.{Trouble}
use Rattle.store_api.specs.declared.store.Trouble.TheVariants.{Fault, NoMemory}
use Rattle.plfs_types.specs.Counts.{next_count}
use Rattle.store_api.specs.Acts.{Stored}

-- what is told of a real folder: no tree, and the counts
abbrev pub untold : ℕ → ℕ → Stored
untold acts faults = record { tree = None; acts = acts; faults = faults }

-- an act that faults raises the count of faults by one, and no other act changes it
abbrev pub CountsFaults : Stored → Stored → Result Answer Trouble → Type 0
CountsFaults old new (Ok answer) = new.faults ≡ old.faults
CountsFaults old new (Err Fault) = new.faults ≡ next_count old.faults
CountsFaults old new (Err NoMemory) = new.faults ≡ old.faults
