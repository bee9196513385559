-- The droppings that covers tell of, cover by cover.
use Rattle.std.specs.Prelude.{ℕ, ◌+◌, List, [], ◌∷◌, ◌++◌, Option, Some, None, Result, Ok, Err}
use Rattle.plfs_types.specs.declared.entries.Cover.{Cover}
use Rattle.flat_format.specs.declared.flat.TheConstants.{COVER_SIZE}
use Rattle.index_reader.specs.declared.listing.Dropping.{Dropping}
use Rattle.index_reader.specs.Found.{item_of}

-- it goes on with the dropping, or this is the place of the first cover that has none
abbrev pub or_place : Option Dropping → ℕ → (Dropping → Result (List Dropping) ℕ) → Result (List Dropping) ℕ
or_place None place next = Err place
or_place (Some d) place next = next d

-- The dropping of each cover's writer, behind those so far; or the place in bytes of the first cover that has none, the
-- next one's being this.
abbrev pub covered : List Dropping → ℕ → List Cover → List Dropping → Result (List Dropping) ℕ
covered droppings place [] sofar = Ok sofar
covered droppings place (c ∷ covers) sofar =
    or_place (item_of (λ (d : Dropping). d.writer) c.writer droppings) place (λ d. covered droppings (place + COVER_SIZE) covers (sofar ++ d ∷ []))
