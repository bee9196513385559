-- What is dealt to workers.
use Rattle.std.specs.Prelude.{ℕ, List}
use Rattle.std.specs.List.{flat_map}
use Rattle.index_reader.specs.declared.listing.Dropping.{Dropping as Listed}
use Rattle.gather_flow.specs.Dealing.{dealt_to}

-- those of the workers of these numbers
abbrev pub dealt_all : ℕ → List Listed → List ℕ → List Listed
dealt_all workers ds numbers = flat_map (λ w. dealt_to workers w 0 ds) numbers
