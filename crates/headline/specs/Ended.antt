-- Which writers a recovery took out, and which it names, in the words of the page.
use Rattle.std.specs.Prelude.{◌≡◌, ℕ, Bool, true, false, List}
use Rattle.std.specs.List.{All}
use Rattle.plfs_types.specs.Places.{IsAmong}
use Rattle.plfs_types.specs.declared.entries.WriterCount.{WriterCount}
use Rattle.script_lang.specs.declared.line.Outcome.TheVariants.{Opened, Recovered}
use Rattle.headline.specs.Run.{Run, Says, Told, surely_before}
use Rattle.headline.specs.Names.{Story}
use Rattle.headline.specs.Changes.{Buries, IsAlive, MayBeDead}

-- Each that was taken out may be dead: a line that opened it is of the container, and its actor was stopped, or began to close it. Each that is told as alive was
-- opened there, and no line before told of its close. Of those that a line opened before, one that can't be dead is told as alive.
pub record HasEnded (run : Run) (story : Story) : Type 0 where
  pub taken_out : (t : Told) (out : List WriterCount) (alive : List ℕ) (hold : Bool) → Says run t (Recovered out alive hold) → All (Buries run story t) out
  pub left : (t : Told) (out : List WriterCount) (alive : List ℕ) (hold : Bool) → Says run t (Recovered out alive hold) → All (λ id. (host : ℕ) × IsAlive run story t host id) alive
  pub all_named : (t o : Told) (out : List WriterCount) (alive : List ℕ) (id : ℕ) → Says run t (Recovered out alive false) → Says run o (Opened id) → story.of o ≡ story.of t → surely_before run o t ≡ true → (MayBeDead run t o.actor id → ⊥) → IsAmong id alive
