-- Which writers of a container are packed: those whose metadata stamp is above 0 and that have no packed index, by
-- ascending id.
use Rattle.std.specs.Prelude.{ℕ, ◌==◌, ◌&&◌, not, nat_lt, Bool, false, if◌then◌else◌, List, [], ◌∷◌, ◌++◌, Option, Some, None, Result, Ok}
use Rattle.mount_model.specs.declared.stuck.Stuck.{Stuck}
use Rattle.mount_model.specs.Paths.{Name, metadata}
use Rattle.mount_model.specs.declared.names.Metadata.{Metadata}
use Rattle.mount_model.specs.Names.{meta_in}
use Rattle.mount_model.specs.Order.{metadata_by_writer}
use Rattle.mount_model.specs.FlowListed.{known}
use Rattle.index_reader.specs.declared.listing.Dropping.{Dropping}
use Rattle.index_reader.specs.Found.{item_of}

-- what the names tell that writers left, behind those so far
abbrev pub metas_named : List Name → List Metadata → Result (List Metadata) Stuck
metas_named [] sofar = Ok sofar
metas_named (name ∷ names) sofar = known metadata name (meta_in name) (λ (m : Metadata). metas_named names (sofar ++ m ∷ []))

abbrev pub is_packed : Option Dropping → Bool
is_packed None = false
is_packed (Some d) = d.packed

-- the writer has entries, and no packed index
abbrev pub is_open_to : List Dropping → Metadata → Bool
is_open_to droppings m = nat_lt 0 m.stamp && not (is_packed (item_of (λ (d : Dropping). d.writer) m.writer droppings))

-- it is of the writer before it
abbrev pub is_again : Option ℕ → Metadata → Bool
is_again None m = false
is_again (Some writer) m = m.writer == writer

-- Of metadata by ascending writer, the one before them being of this writer, those that are to be packed, behind those
-- so far. The first of each writer counts.
abbrev pub chosen_behind : List Dropping → Option ℕ → List Metadata → List Metadata → List Metadata
chosen_behind droppings last [] sofar = sofar
chosen_behind droppings last (m ∷ metas) sofar =
    if not (is_again last m) && is_open_to droppings m
    then chosen_behind droppings (Some m.writer) metas (sofar ++ m ∷ [])
    else chosen_behind droppings (Some m.writer) metas sofar

-- the writers that are to be packed
abbrev pub chosen : List Dropping → List Metadata → List Metadata
chosen droppings metas = chosen_behind droppings None (metadata_by_writer metas) []
