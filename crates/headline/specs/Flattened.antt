-- What the lines of flattened indices say.
use Rattle.std.specs.Prelude.{ℕ, List}
use Rattle.plfs_types.specs.declared.entries.WriterCount.{WriterCount}
use Rattle.script_lang.specs.declared.line.Outcome.TheVariants.{Flattened}
use Rattle.headline.specs.Run.{Run, Says, Told}
use Rattle.headline.specs.Names.{Story}
use Rattle.headline.specs.Files.{Flattens}

-- `flattened ID MANY CUT`: the index of this number stands in the container from then on. It covers a cut that a reader might see then, with as many pieces.
pub record HasFlattened (run : Run) (story : Story) : Type 0 where
  pub flattens : (t : Told) (id many : ℕ) (cut : List WriterCount) → Says run t (Flattened id many cut) → Flattens run story t id many cut
