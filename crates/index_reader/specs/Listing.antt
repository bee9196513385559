-- The droppings of a container's writers.
use Rattle.std.specs.Prelude.{List}
use Rattle.index_reader.specs.declared.listing.Dropping.{Dropping}
use Rattle.index_reader.specs.Found.{AscendBy}

-- droppings by ascending writer
abbrev pub AreByWriter : List Dropping → Type 0
AreByWriter droppings = AscendBy (λ (d : Dropping). d.writer) droppings
