-- What the lines of truncates say.
use Rattle.std.specs.Prelude.{◌≡◌, ℕ, List}
use Rattle.script_lang.specs.declared.line.Outcome.TheVariants.{Truncated}
use Rattle.script_lang.specs.declared.script.Statement.TheVariants.{Trunc}
use Rattle.headline.specs.Run.{Run, Says, Told}
use Rattle.headline.specs.Names.{Story}
use Rattle.headline.specs.Changes.{Cuts}

-- `truncated STAMP`: it cuts all that had landed, and nothing that is written after it.
pub record HasTruncated (run : Run) (story : Story) : Type 0 where
  pub cuts : (t : Told) (name : List ℕ) (size stamp : ℕ) → Says run t (Truncated stamp) → t.statement ≡ Trunc name size → Cuts run story t size stamp
