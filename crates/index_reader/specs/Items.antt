-- What the files in a container's folders of flattened indices and of droppings are.
use Rattle.std.specs.Prelude.{ℕ, ◌^◌, ◌&&◌, Bool, true, false, if◌then◌else◌, Option, Some, None}
use Rattle.plfs_types.specs.declared.names.Path.{Path}
use Rattle.container_layout.specs.declared.items.Item.{Item}
use Rattle.container_layout.specs.declared.items.Item.TheVariants as item
use Rattle.container_layout.specs.Paths.{path_of}
use Rattle.mount_model.specs.Names.{or_else, find_below}
use Rattle.index_reader.specs.Searching.{same_bytes}

abbrev pub same_path : Path → Path → Bool
same_path p q = same_bytes p.folder q.folder && same_bytes p.file q.file

-- this item, where the path is its own
abbrev pub item_at : Item → Path → Option Item
item_at it path = if same_path path (path_of it) then Some it else None

-- the item of this kind whose path this is, by its id
unfoldable pub item_of_id : (ℕ → Item) → Path → Option Item
item_of_id kind path = find_below (λ id. item_at (kind id) path) (2 ^ 64)

-- the same of a kind that has a host too
unfoldable pub item_of_host : (ℕ → ℕ → Item) → Path → Option Item
item_of_host kind path = find_below (λ host. item_of_id (kind host) path) (2 ^ 32)

abbrev pub is_flats : Item → Bool
is_flats (item.Flat id) = true
is_flats (item.TmpFlat id) = true
is_flats it = false

abbrev pub is_of_hostdir : Item → Bool
is_of_hostdir (item.Index host writer) = true
is_of_hostdir (item.Log host writer) = true
is_of_hostdir (item.Packed host writer) = true
is_of_hostdir (item.TmpPacked host id) = true
is_of_hostdir it = false

-- a flattened index, or one that is being written
abbrev pub flat_item : Path → Option Item
flat_item path = or_else (item_of_id (λ id. item.Flat id) path) (item_of_id (λ id. item.TmpFlat id) path)

-- an index dropping, a log, a packed index, or one that is being written
abbrev pub hostdir_item : Path → Option Item
hostdir_item path = or_else (item_of_host (λ host writer. item.Index host writer) path)
    (or_else (item_of_host (λ host writer. item.Log host writer) path)
    (or_else (item_of_host (λ host writer. item.Packed host writer) path)
    (item_of_host (λ host id. item.TmpPacked host id) path)))
