-- What a run makes of its store: a mount, and calls on it.
use Rattle.std.specs.Prelude.{◌≡◌, ℕ, List, Option}
use Rattle.plfs_types.specs.Counts.{HasRisen}
use Rattle.store_api.specs.Acts.{Stored}
use Rattle.mount_model.specs.State.{State}
use Rattle.mount_model.specs.Mounting.{IsMounted}
use Rattle.script_lang.specs.declared.line.Line.{Line}
use Rattle.script_lang.specs.declared.script.Script.{Script}
use Rattle.plain_plays.specs.OverStores.{TellsPlainly}
use Rattle.headline_laws.specs.Counting.{CountWrites}
use Rattle.plfs_program.specs.Seen.{TellsOrderly, TellsStill, TellsStory}
use Rattle.program_ends.specs.SoundTrees.{TellsSoundTree}
use Rattle.plfs_program.specs.Ways.{Way, HasLines, ShowsFiles, by_turns}

-- A mount was made of the store as it was, with these times to come. On it the script was played in this way, with these lines,
-- which led to what is left of the store. Where that told a sound tree, the lines of each reader are those of one plain file, those of each writer show
-- what it wrote, synced and closed, and the number of a sync or a close is that of its writer's `wrote` lines. The lines are orderly.
-- What stood in the tree before stands still. A story fits the lines: of which container each speaks. Where it was played by turns and no call met a fault,
-- each plain machine that begins over the store says these lines.
pub record IsPlayedOn (way : Way) (times : Option (List ℕ)) (before : Stored) (script : Script) (lines : List Line) (after : Stored) : Type 0 where
  pub start : State
  pub end : State
  pub mounted : IsMounted 0 times before start
  pub play : HasLines way script start lines end
  pub left : end.store ≡ after
  pub plain : TellsSoundTree before → ShowsFiles way script start lines end play
  pub counted : TellsSoundTree before → CountWrites script lines
  pub orderly : TellsOrderly times before script lines after
  pub still : TellsStill times before script lines after
  pub story : TellsStory times before script lines after
  pub machine : way ≡ by_turns → (HasRisen before.faults after.faults → ⊥) → TellsPlainly script times before lines after
