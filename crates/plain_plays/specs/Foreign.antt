-- Names in a folder of droppings that are no dropping's.
use Rattle.std.specs.Prelude.{◌≡◌, None, Some}
use Rattle.container_layout.specs.declared.items.Item.{Item}
use Rattle.mount_model.specs.FlowListed.{file_in}
use Rattle.mount_model.specs.Paths.{Name}
use Rattle.index_reader.specs.Items.{hostdir_item}

-- the name is that of an item that may stand in this folder
abbrev pub IsOfItem : Name → Name → Type 0
IsOfItem folder name = (it : Item) × (hostdir_item (file_in folder name) ≡ Some it)

-- it is that of none
abbrev pub IsForeign : Name → Name → Type 0
IsForeign folder name = hostdir_item (file_in folder name) ≡ None
