-- Which stamps the lines tell.
use Rattle.std.specs.Prelude.{◌≡◌, ℕ, Some}
use Rattle.script_lang.specs.declared.line.Outcome.TheVariants.{Truncated, Wrote}
use Rattle.headline.specs.Run.{Run, Says, Told}
use Rattle.headline.specs.Names.{Story}
use Rattle.headline.specs.Changes.{IsNextStamp, IsStamp, IsStampIn, writer_at}

-- `wrote AT LEN STAMP`, `truncated STAMP`: the next stamp by the clock, of the writer or of the container.
pub record HasStamps (run : Run) (story : Story) : Type 0 where
  pub wrote : (t : Told) (at len stamp id : ℕ) → Says run t (Wrote at len (Some stamp)) → writer_at run t ≡ Some id → IsNextStamp run story t at len id stamp
  pub truncated : (t : Told) (stamp : ℕ) → Says run t (Truncated stamp) → IsStamp run (IsStampIn run (story.of t)) 0 stamp
