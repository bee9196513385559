-- The newest of the flattened indices that a listing names.
use Rattle.std.specs.Prelude.{ℕ, max, List, [], ◌∷◌, Option, Some, None, Result, Ok, Err}
use Rattle.plfs_types.specs.declared.names.Path.{Path}
use Rattle.container_layout.specs.declared.items.Item.{Item}
use Rattle.container_layout.specs.declared.items.Item.TheVariants as item
use Rattle.mount_model.specs.declared.stuck.Stuck.{Stuck}
use Rattle.mount_model.specs.FlowReplies.{damage}
use Rattle.mount_model.specs.Paths.{Name, flats}
use Rattle.index_reader.specs.Items.{flat_item}

abbrev pub flats_path : Name → Path
flats_path name = record { folder = flats; file = name }

abbrev pub greater_id : ℕ → Option ℕ → Option ℕ
greater_id id None = Some id
greater_id id (Some other) = Some (max id other)

-- A flattened index may be the newest so far, one that is being written is passed over, and another name is damage.
abbrev pub if_flat : Name → Option Item → Option ℕ → (Option ℕ → Result (Option ℕ) Stuck) → Result (Option ℕ) Stuck
if_flat name None newest next = Err (damage (flats_path name) 0)
if_flat name (Some (item.Flat id)) newest next = next (greater_id id newest)
if_flat name (Some other) newest next = next newest

-- the greatest id that the names tell, with the one so far
abbrev pub newest_in : List Name → Option ℕ → Result (Option ℕ) Stuck
newest_in [] newest = Ok newest
newest_in (name ∷ names) newest = if_flat name (flat_item (flats_path name)) newest (λ further. newest_in names further)
