-- What a loss of power after the run leaves of what the lines told.
use Rattle.std.specs.Prelude.{◌≡◌, ◌⊎◌, ◌≤◌, ℕ, length, Some, take}
use Rattle.container_layout.specs.declared.items.Item.{Item}
use Rattle.store_api.specs.declared.tree.Tree.{Tree}
use Rattle.store_api.specs.Loss.{Loses}
use Rattle.script_lang.specs.declared.line.Outcome.TheVariants.{Closed, Synced}
use Rattle.headline.specs.Run.{Run, Says, Told, told}
use Rattle.headline.specs.Trees.{Has, landed_writes}
use Rattle.headline.specs.Writers.{Writer}
use Rattle.headline.specs.Names.{Story}
use Rattle.headline.specs.Views.{IsWriter}
use Rattle.headline.specs.Changes.{writer_at}

-- So many of the writer's writes are left in this tree, or more: the first ones, whole and with their bytes.
pub record HasLeast (tree : Tree) (n count : ℕ) (w : Writer) : Type 0 where
  pub no_fewer : count ≤ length (landed_writes tree n w.host w.id)
  pub first : landed_writes tree n w.host w.id ≡ take (length (landed_writes tree n w.host w.id)) w.writes

-- The tree that is left has of each writer what a sync or a close told. All truncates, metadata and other files of the tree after stand in it by name.
pub record KeepsTold (run : Run) (story : Story) (lost : Tree) : Type 0 where
  pub synced : (t : Told) (count n : ℕ) (w : Writer) → Says run t (Synced count) ⊎ Says run t (Closed count) → writer_at run t ≡ Some w.id → IsWriter run story n (told run) (told run) w → HasLeast lost n count w
  pub stand : (n : ℕ) (item : Item) → Has run.after n item → Has lost n item

-- So it is of each tree that a loss of power leaves of the tree after.
abbrev pub SurvivesLosses : Run → Story → Type 0
SurvivesLosses run story = (lost : Tree) → Loses run.after lost → KeepsTold run story lost
