-- A name among the truncates that is no truncate's is no item's.
use Rattle.std.proofs.Common.{refl}
use Rattle.container_layout.specs.declared.items.Item.{Item}
use Rattle.container_layout.specs.declared.items.Item.TheVariants.{Trunc}
use Rattle.container_layout.specs.Paths.{IsIn}
use Rattle.container_layout.proofs.Facts.{elsewhere, first_of_folder}
use Rattle.mount_model.specs.Paths.{Name, truncs}
use Rattle.mount_model.specs.Listed.{HasNone, HasStamp}

pub no_item : (name : Name) → HasNone HasStamp name → (item : Item) → IsIn truncs name item → ⊥
no_item name none (Trunc stamp size) is = none stamp (size, is)
no_item name none item is = elsewhere (first_of_folder is.printed) refl
