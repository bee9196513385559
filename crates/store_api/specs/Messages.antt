-- What is printed of an act that gave no answer.
use Rattle.std.specs.Prelude.{ℕ, List, codes}
use Rattle.store_api.specs.declared.store.Trouble.{Trouble}
use Rattle.store_api.specs.declared.store.Trouble.TheVariants.{Fault, NoMemory}

abbrev pub trouble_text : Trouble → List ℕ
trouble_text Fault = codes "the store failed"
trouble_text NoMemory = codes "memory was refused"
