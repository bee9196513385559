-- Where truncates are from: the tree before, and lines.
use Rattle.std.specs.Prelude.{◌≡◌, ◌⊎◌, ℕ, false, List}
use Rattle.std.specs.List.{All}
use Rattle.plfs_types.specs.declared.entries.ShareBytes.{ShareBytes}
use Rattle.plfs_types.specs.declared.entries.Trunc.{Trunc}
use Rattle.plfs_types.specs.declared.entries.WriterCount.{WriterCount}
use Rattle.container_layout.specs.Items.{IsItem}
use Rattle.script_lang.specs.declared.line.Outcome.TheVariants.{Reader, Stat}
use Rattle.headline.specs.Run.{Run, Says, Told, surely_before}
use Rattle.headline.specs.Trees.{Has}
use Rattle.headline.specs.Names.{Story}
use Rattle.headline.specs.Views.{Truncates, item_of}

-- The truncate is of the tree before, or of a line that began by the end of this one; one that broke off may have made it too.
abbrev pub IsKnown : Run → Story → Told → Trunc → Type 0
IsKnown run story t u = Has run.before (story.of t) (item_of u) ⊎ ((s : Told) × Truncates run story s (story.of t) u × (surely_before run t s ≡ false))

-- So it is of each that a line of a reader has, or one that tells of a file. The tree after has no others than the tree before and those of lines.
pub record HasTruncs (run : Run) (story : Story) : Type 0 where
  pub readers : (t : Told) (size : ℕ) (cut : List WriterCount) (truncs : List Trunc) → Says run t (Reader size cut truncs) → All (IsKnown run story t) truncs
  pub stats : (t : Told) (size stored : ℕ) (shares : List ShareBytes) (truncs : List Trunc) → Says run t (Stat size stored shares truncs) → All (IsKnown run story t) truncs
  pub left : (n : ℕ) (u : Trunc) → IsItem (item_of u) → Has run.after n (item_of u) → Has run.before n (item_of u) ⊎ ((s : Told) × Truncates run story s n u)
