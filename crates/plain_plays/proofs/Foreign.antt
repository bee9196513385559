-- A listing of a folder of droppings with a foreign name is damage at the first such name, whatever else is in it.
use Rattle.std.proofs.Common.{◌≡◌, List, [], ◌∷◌, ◌++◌, Option, Some, Err, ap, ◌∙◌}
use Rattle.std.specs.List.{AllByRecursion}
use Rattle.container_layout.specs.declared.items.Item.{Item}
use Rattle.mount_model.specs.FlowListed.{file_in}
use Rattle.mount_model.specs.FlowReplies.{damage}
use Rattle.mount_model.specs.Paths.{Name}
use Rattle.index_reader.specs.declared.scanning.Scan.{Scan}
use Rattle.index_reader.specs.Scanning.{foreign_in, foreign_or, scanned, taken_all, unless_foreign}
use Rattle.plain_plays.specs.Foreign.{IsForeign, IsOfItem}

first_foreign : (folder : Name) (before : List Name) (name : Name) (later : List Name) → AllByRecursion (IsOfItem folder) before → IsForeign folder name → foreign_in folder (before ++ name ∷ later) ≡ Some name
first_foreign folder [] name later known foreign = ap (λ (o : Option Item). foreign_or name o (foreign_in folder later)) foreign
first_foreign folder (n ∷ before) name later known foreign =
    ap (λ (o : Option Item). foreign_or n o (foreign_in folder (before ++ name ∷ later))) known.0.1 ∙ first_foreign folder before name later known.1 foreign

pub foreign_so : (folder : Name) (before : List Name) (name : Name) (later : List Name) (scan : Scan) → AllByRecursion (IsOfItem folder) before → IsForeign folder name → scanned folder (before ++ name ∷ later) scan ≡ Err (damage (file_in folder name) 0)
foreign_so folder before name later scan known foreign =
    ap (λ (o : Option Name). unless_foreign folder o (taken_all folder (before ++ name ∷ later) scan)) (first_foreign folder before name later known foreign)
