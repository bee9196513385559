-- Where indices are from: the tree before, and lines that opened writers.
use Rattle.std.specs.Prelude.{◌⊎◌, ℕ}
use Rattle.container_layout.specs.Items.{IsItem}
use Rattle.container_layout.specs.declared.items.Item.TheVariants.{Index}
use Rattle.headline.specs.Run.{Run, Told}
use Rattle.headline.specs.Trees.{Has}
use Rattle.headline.specs.Names.{Story}
use Rattle.headline.specs.Changes.{OpensIn}

-- The tree after has no other indices than the tree before and those of writers that lines opened, under their actors' hosts. A line of an opening that broke
-- off may have made one too.
pub record HasIndices (run : Run) (story : Story) : Type 0 where
  pub known : (n host id : ℕ) → IsItem (Index host id) → Has run.after n (Index host id) → Has run.before n (Index host id) ⊎ ((o : Told) × OpensIn run story o n host id)
