-- Why statements are refused as held, and what a recovery found that tells of a hold.
use Rattle.std.specs.Prelude.{ℕ, true, List}
use Rattle.plfs_types.specs.declared.entries.WriterCount.{WriterCount}
use Rattle.script_lang.specs.declared.line.Outcome.TheVariants.{Recovered, Refused}
use Rattle.script_lang.specs.declared.line.Why.TheVariants.{Held}
use Rattle.headline.specs.Run.{Run, Says, Told}
use Rattle.headline.specs.Names.{Story}
use Rattle.headline.specs.Changes.{MayBeHeld}
use Rattle.headline.specs.Causes.{IsHeldFrom}

-- An opening, a truncate or a rename is refused as held only where its container may have been held. A recovery is so only while another statement held it, and
-- one that tells that it ended a hold found one.
pub record HasHeld (run : Run) (story : Story) : Type 0 where
  pub refused : (t : Told) → Says run t (Refused Held) → IsHeldFrom run story t t.statement
  pub ended : (t : Told) (out : List WriterCount) (alive : List ℕ) → Says run t (Recovered out alive true) → MayBeHeld run story t
