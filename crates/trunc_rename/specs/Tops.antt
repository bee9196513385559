-- The greatest stamp that the names of a listing tell.
use Rattle.std.specs.Prelude.{ℕ, max, List, [], ◌∷◌, Result, Ok}
use Rattle.plfs_types.specs.declared.entries.Trunc.{Trunc}
use Rattle.mount_model.specs.declared.stuck.Stuck.{Stuck}
use Rattle.mount_model.specs.Paths.{Name, metadata, truncs}
use Rattle.mount_model.specs.declared.names.Metadata.{Metadata}
use Rattle.mount_model.specs.Names.{meta_in, trunc_in}
use Rattle.mount_model.specs.FlowListed.{known}

-- the greatest of this stamp and those of the metadata droppings of these names
abbrev pub metadata_top : List Name → ℕ → Result ℕ Stuck
metadata_top [] top = Ok top
metadata_top (name ∷ names) top = known metadata name (meta_in name) (λ (m : Metadata). metadata_top names (max top m.stamp))

-- the greatest of this stamp and those of the truncates of these names
abbrev pub truncs_top : List Name → ℕ → Result ℕ Stuck
truncs_top [] top = Ok top
truncs_top (name ∷ names) top = known truncs name (trunc_in name) (λ (t : Trunc). truncs_top names (max top t.stamp))
