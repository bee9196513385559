-- What the lines of recoveries say.
use Rattle.std.specs.Prelude.{◌≡◌, ◌≤◌, ◌<◌, ℕ, Bool, true, false, List, [], length, map}
use Rattle.std.specs.List.{All}
use Rattle.plfs_types.specs.declared.entries.WriterCount.{WriterCount}
use Rattle.container_layout.specs.Items.{IsItem}
use Rattle.container_layout.specs.declared.items.Item.TheVariants.{OpenHost}
use Rattle.script_lang.specs.declared.line.Outcome.TheVariants.{Opened, Recovered, Stopped}
use Rattle.script_lang.specs.declared.script.Statement.TheVariants.{Close}
use Rattle.headline.specs.Run.{IsLine, Run, Says, Told, before, so_far, surely_before}
use Rattle.plfs_types.specs.Places.{IsAmong}
use Rattle.headline.specs.Trees.{Has, landed_writes}
use Rattle.headline.specs.Writers.{Writer}
use Rattle.headline.specs.Names.{Story}
use Rattle.headline.specs.Views.{IdsRise, IsWriter}
use Rattle.headline.specs.Left.{StaysOpen}

-- The actor of the line o has not closed the writer since, and no stop ended the actor, by the end of the line t.
abbrev pub IsStillOpen : Run → Told → Told → Type 0
IsStillOpen run t o = (s : Told) → IsLine run s → s.actor ≡ o.actor → o.place < s.place → surely_before run t s ≡ false → (s.statement ≡ Close → ⊥) × (s.outcome ≡ Stopped → ⊥)

-- A writer that was taken out has no entry of an open writer any more. It is none that a line opened which began by the end of this one, and whose actor has it still, nor one that its actor has at the end.
-- Just so many of its writes have landed, also where these are none: no fewer than surely had before the line, and no more than may have by its end. Where it
-- wrote, it is one of the tree before or one that a line opened. All writers of its number in the container are of its host.
pub record TakesOut (run : Run) (story : Story) (t : Told) (b : WriterCount) : Type 0 where
  pub host : ℕ
  pub gone : (open_by : ℕ) → IsItem (OpenHost open_by b.writer) → Has run.after (story.of t) (OpenHost open_by b.writer) → ⊥
  pub spared : (o : Told) → IsLine run o → story.of o ≡ story.of t → StaysOpen run o b.writer → ⊥
  pub dead : (o : Told) → IsLine run o → o.outcome ≡ Opened b.writer → story.of o ≡ story.of t → surely_before run t o ≡ false → IsStillOpen run t o → ⊥
  pub counted : (w : Writer) → w.id ≡ b.writer → IsWriter run story (story.of t) (before run t) (so_far run t) w → (w.least ≤ b.count) × (b.count ≤ w.most)
  pub landed : b.count ≡ length (landed_writes run.after (story.of t) host b.writer)
  pub its_host : (w : Writer) → w.id ≡ b.writer → IsWriter run story (story.of t) (before run t) (so_far run t) w → w.host ≡ host
  pub known : 1 ≤ b.count → (w : Writer) × (w.id ≡ b.writer) × (w.host ≡ host) × IsWriter run story (story.of t) (before run t) (so_far run t) w

-- Writers are told by rising number, each that was taken out is so, and nobody is told where a hold was ended. No entry of an open writer is left that the tree
-- before had. One that a line opened before, and whose actor has it still, is told as alive.
pub record HasRecovered (run : Run) (story : Story) : Type 0 where
  pub rise : (t : Told) (out : List WriterCount) (alive : List ℕ) (hold : Bool) → Says run t (Recovered out alive hold) → IdsRise (map (λ (b : WriterCount). b.writer) out) × IdsRise alive
  pub taken_out : (t : Told) (out : List WriterCount) (alive : List ℕ) (hold : Bool) → Says run t (Recovered out alive hold) → All (TakesOut run story t) out
  pub held : (t : Told) (out : List WriterCount) (alive : List ℕ) → Says run t (Recovered out alive true) → (out ≡ []) × (alive ≡ [])
  pub none_left : (t : Told) (out : List WriterCount) (alive : List ℕ) (hold : Bool) (host id : ℕ) → Says run t (Recovered out alive hold) → IsItem (OpenHost host id) → Has run.before (story.of t) (OpenHost host id) → Has run.after (story.of t) (OpenHost host id) → ⊥
  pub named : (t o : Told) (out : List WriterCount) (alive : List ℕ) (hold : Bool) (id : ℕ) → Says run t (Recovered out alive hold) → Says run o (Opened id) → story.of o ≡ story.of t → surely_before run o t ≡ true → IsStillOpen run t o → IsAmong id alive
