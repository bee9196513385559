-- What is in doubt.
use Rattle.std.specs.Prelude.{Bool, Option, None, is_some}
use Rattle.std.specs.Option.{option_or}
use Rattle.std.specs.HashMap.{get}
use Rattle.folder_calls.specs.declared.doubts.Doubts.{Doubts}
use Rattle.folder_calls.specs.declared.doubts.Item.{Item}
use Rattle.folder_calls.specs.declared.doubts.Item.TheVariants.{Nothing, Root, Under}
use Rattle.folder_calls.specs.declared.reason.Doubt.{Doubt}
use Rattle.folder_calls.specs.Keys.{same_file}

-- why the first sync of an item failed, or that for which memory was refused, which is of all items
abbrev pub doubt_of : Doubts → Item → Option Doubt
doubt_of doubts Nothing = None
doubt_of doubts Root = option_or doubts.root doubts.all
doubt_of doubts (Under key) = option_or (get same_file doubts.keys key) doubts.all

-- an item of which a sync failed, or any item once memory was refused for one
abbrev pub is_doubted : Doubts → Item → Bool
is_doubted doubts item = is_some (doubt_of doubts item)
