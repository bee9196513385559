-- Where entries of open writers are from: the tree before, and lines that opened writers. Whose entry lets nobody hold a container.
use Rattle.std.specs.Prelude.{◌⊎◌, ℕ}
use Rattle.container_layout.specs.Items.{IsItem}
use Rattle.container_layout.specs.declared.items.Item.TheVariants.{OpenHost}
use Rattle.script_lang.specs.declared.line.Outcome.TheVariants.{Refused}
use Rattle.script_lang.specs.declared.line.Why.TheVariants.{Busy}
use Rattle.headline.specs.Run.{Run, Says, Told}
use Rattle.headline.specs.Trees.{Has}
use Rattle.headline.specs.Names.{Story}
use Rattle.headline.specs.Changes.{Holds, OpensIn}
use Rattle.headline.specs.Causes.{IsOpenIn}

-- The tree after has no other entries than the tree before and those of writers that lines opened, under their actors' hosts. A line of an opening that broke
-- off may have made one too. Of a statement that was refused as busy, the writer that it tells had the container open.
pub record HasEntries (run : Run) (story : Story) : Type 0 where
  pub known : (n host id : ℕ) → IsItem (OpenHost host id) → Has run.after n (OpenHost host id) → Has run.before n (OpenHost host id) ⊎ ((o : Told) × OpensIn run story o n host id)
  pub busy : (t : Told) (host id : ℕ) → Says run t (Refused (Busy host id)) → Holds t.statement × IsOpenIn run story t host id
