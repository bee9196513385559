-- What is printed where several stores can't be opened as one.
use Rattle.std.specs.Prelude.{ℕ, List, codes}
use Rattle.spread_store.specs.declared.opening.SpreadTrouble.{SpreadTrouble}
use Rattle.spread_store.specs.declared.opening.SpreadTrouble.TheVariants.{Doubled, Fault, NoMemory}

abbrev pub trouble_text : SpreadTrouble → List ℕ
trouble_text (Doubled name) = codes "two stores have a room of one name"
trouble_text Fault = codes "a store failed"
trouble_text NoMemory = codes "memory was refused"
