-- Which steps sync what, and which are refused for a sync that failed.
use Rattle.std.specs.Prelude.{◌≡◌, ◌⊎◌, ℕ, List, [], Bool, Option, Some, is_some}
use Rattle.std.specs.Option.{option_or}
use Rattle.store_api.specs.Step.{Step, make_room, rename_room, make_folder, remove_folder, create, remove, replace, sync}
use Rattle.folder_calls.specs.declared.doubts.Doubts.{Doubts}
use Rattle.folder_calls.specs.declared.doubts.Item.{Item}
use Rattle.folder_calls.specs.declared.doubts.Item.TheVariants.{Nothing, Root, Under}
use Rattle.folder_calls.specs.declared.reason.Doubt.{Doubt}
use Rattle.folder_calls.specs.Doubts.{doubt_of}

-- the file of this name, or the folder where it has none, which at the top has none either
abbrev pub under : ℕ → List ℕ → List ℕ → Item
under room folder file = Under (record { room = room; folder = folder; file = file })

-- what a step syncs: a file its bytes, a folder the names in it, and ROOT those of the rooms
abbrev pub synced_by : Step → Item
synced_by (make_room name folders files) = Root
synced_by (rename_room room to) = Root
synced_by (make_folder room folder) = under room [] []
synced_by (remove_folder room folder) = under room [] []
synced_by (create room folder file) = under room folder []
synced_by (remove room folder file) = under room folder []
synced_by (replace room folder from to) = under room folder []
synced_by (sync room folder file) = under room folder file
synced_by other = Nothing

-- the file that a step gives another name
abbrev pub renamed_by : Step → Item
renamed_by (replace room folder from to) = under room folder from
renamed_by other = Nothing

-- A step is refused that syncs what is in doubt, or gives it another name. So no doubt is lifted by a sync, nor left
-- behind by another name. It is refused for the first failure of what it syncs, or else of what it renames.
abbrev pub refusal : Doubts → Step → Option Doubt
refusal doubts step = option_or (doubt_of doubts (synced_by step)) (doubt_of doubts (renamed_by step))

abbrev pub is_refused : Doubts → Step → Bool
is_refused doubts step = is_some (refusal doubts step)

-- what a step syncs is in doubt for this cause, where it syncs anything
abbrev pub IsDoubtedFor : Doubts → Step → Doubt → Type 0
IsDoubtedFor doubts step doubt = (synced_by step ≡ Nothing) ⊎ (doubt_of doubts (synced_by step) ≡ Some doubt)
