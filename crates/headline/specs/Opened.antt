-- What the tree after has of the writers that lines opened.
use Rattle.std.specs.Prelude.{◌≡◌, ℕ, slice_get}
use Rattle.container_layout.specs.Items.{IsItem}
use Rattle.container_layout.specs.declared.items.Item.TheVariants.{Index, Log}
use Rattle.script_lang.specs.declared.line.Outcome.TheVariants.{Opened}
use Rattle.headline.specs.Run.{Run, Says, Told}
use Rattle.headline.specs.Trees.{Has}
use Rattle.headline.specs.Writers.{host_of}
use Rattle.headline.specs.Names.{Story}

-- `open ID`: the container that the line speaks of has the index and the log of this writer, under its actor's host. The story says which container it is.
-- No writer of the tree before has its number, and no other line told of it.
pub record HasOpened (run : Run) (story : Story) : Type 0 where
  pub index : (t : Told) (id : ℕ) → Says run t (Opened id) → Has run.after (story.of t) (Index (host_of (slice_get run.script.actors t.actor)) id)
  pub log : (t : Told) (id : ℕ) → Says run t (Opened id) → Has run.after (story.of t) (Log (host_of (slice_get run.script.actors t.actor)) id)
  pub new : (t : Told) (id n host : ℕ) → Says run t (Opened id) → IsItem (Index host id) → Has run.before n (Index host id) → ⊥
  pub alone : (s t : Told) (id : ℕ) → Says run s (Opened id) → Says run t (Opened id) → s ≡ t
