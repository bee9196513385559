-- What the tree after has still of the tree before, whatever the lines say.
use Rattle.std.specs.Prelude.{ℕ}
use Rattle.plfs_types.specs.declared.entries.Trunc.{Trunc}
use Rattle.container_layout.specs.declared.items.Item.TheVariants.{Index, Meta}
use Rattle.headline.specs.Run.{Run}
use Rattle.headline.specs.Trees.{Has}
use Rattle.headline.specs.Writers.{old_writer}
use Rattle.headline.specs.Views.{item_of}
use Rattle.headline.specs.Left.{IsLeft}

-- A run takes away no truncate, and no metadata of a writer that had left. Of each writer that had an index, just the writes that had landed stand.
pub record HasStill (run : Run) : Type 0 where
  pub truncs : (n : ℕ) (u : Trunc) → Has run.before n (item_of u) → Has run.after n (item_of u)
  pub metas : (n last bytes stamp host id : ℕ) → Has run.before n (Meta last bytes stamp host id) → Has run.after n (Meta last bytes stamp host id)
  pub writers : (n host id : ℕ) → Has run.before n (Index host id) → IsLeft run n (old_writer run.before n host id)
