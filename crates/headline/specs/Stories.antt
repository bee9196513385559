-- A story that fits a run: which container each line speaks of.
use Rattle.std.specs.Prelude.{◌≡◌, ℕ, false, Some, None}
use Rattle.container_layout.specs.declared.items.Item.TheVariants.{OpenHost}
use Rattle.script_lang.specs.declared.line.Outcome.TheVariants.{Closed, Refused}
use Rattle.script_lang.specs.declared.line.Why.TheVariants.{IdsSpent, NotOpen, StampsSpent}
use Rattle.headline.specs.Run.{IsLine, Run, Says, Told, told}
use Rattle.headline.specs.Trees.{Has}
use Rattle.headline.specs.Writers.{Writer}
use Rattle.headline.specs.Names.{AreNamed, Story, name_of}
use Rattle.headline.specs.Views.{IsWriter}
use Rattle.headline.specs.Changes.{writer_at}
use Rattle.headline.specs.Causes.{AreStampsSpent, MayBeReady}
use Rattle.headline.specs.Left.{HasLeft, IsLeft, StaysOpen}
use Rattle.headline.specs.Opened.{HasOpened}
use Rattle.headline.specs.Contents.{HasContents}
use Rattle.headline.specs.Refusals.{HasRefusals}
use Rattle.headline.specs.Reasons.{HasReasons}
use Rattle.headline.specs.Missing.{HasMissing}
use Rattle.headline.specs.Readers.{HasNames, HasOld, HasReaders}
use Rattle.headline.specs.Spoken.{HasSpoken}
use Rattle.headline.specs.Stamped.{HasStamps}
use Rattle.headline.specs.Stats.{HasStats}
use Rattle.headline.specs.Truncated.{HasTruncated}
use Rattle.headline.specs.Truncs.{HasTruncs}
use Rattle.headline.specs.Indices.{HasIndices}
use Rattle.headline.specs.Flattened.{HasFlattened}
use Rattle.headline.specs.Listed.{HasListed}
use Rattle.headline.specs.Losses.{SurvivesLosses}
use Rattle.headline.specs.Recovered.{HasRecovered}
use Rattle.headline.specs.Ended.{HasEnded}
use Rattle.headline.specs.Entries.{HasEntries}
use Rattle.headline.specs.Held.{HasHeld}
use Rattle.headline.specs.Headline.{Headline}

-- It says in which order containers got their names. The containers that it says have the names by which the lines speak of them, and the files of the writers that lines opened. Their readers see what was told
-- before, and what the tree before had: each one plain file, of the first writes that the lines tell of each writer. What is told of a file is that of
-- such a plain file. Refusals of a reader's statements have their causes, so has what is refused as `not-open` or for want of a stamp, and others have a reason of their statement. The tree after has the first writes of each writer, as many as the lines allow,
-- and all of its bytes. A writer that was closed has left, with metadata of all that it wrote. One that its actor has at the end is open there still.
-- Each stamp is a time of the clock, or the next above what came before. A truncate cuts all that had landed, and nothing that is written after it. Each that a line shows, or that stands after, is of the tree before or of a line. So is each index, and each entry of an open writer. What is refused as busy is open by a writer,
-- and what is refused as held may have been held.
-- What was flattened stands, and covers a cut that a reader might see. No name is missing of those that are listed. Who was taken out by a recovery is open no more: its actor was stopped, or closed it.
-- Who is told as alive was opened there. What a sync told survives each loss of power after the run.
pub record Fits (run : Run) (story : Story) : Type 0 where
  pub names : HasNames run story
  pub are_named : AreNamed run story
  pub spoken : HasSpoken run story
  pub opened : HasOpened run story
  pub readers : HasReaders run story
  pub old : HasOld run story
  pub contents : HasContents run story
  pub stats : HasStats run story
  pub stamped : HasStamps run story
  pub truncated : HasTruncated run story
  pub truncs : HasTruncs run story
  pub indices : HasIndices run story
  pub flattened : HasFlattened run story
  pub listed : HasListed run
  pub recovered : HasRecovered run story
  pub ended : HasEnded run story
  pub entries : HasEntries run story
  pub held : HasHeld run story
  pub refusals : HasRefusals run
  pub reasons : HasReasons run
  pub missing : HasMissing run
  pub unready : (t : Told) → Says run t (Refused NotOpen) → (name_of t.statement ≡ None) × MayBeReady false run t t.statement
  pub spent : (t : Told) → Says run t (Refused StampsSpent) → AreStampsSpent run story t
  pub left : (n : ℕ) (w : Writer) → IsWriter run story n (told run) (told run) w → IsLeft run n w
  pub closed : (t : Told) (count n : ℕ) (w : Writer) → Says run t (Closed count) → writer_at run t ≡ Some w.id → IsWriter run story n (told run) (told run) w → HasLeft run n w
  pub kept : (t : Told) (n : ℕ) (w : Writer) → IsLine run t → StaysOpen run t w.id → IsWriter run story n (told run) (told run) w → Has run.after n (OpenHost w.host w.id)
  pub losses : SurvivesLosses run story
  -- the whole page, where no statement was refused since all numbers of the mount were spent
  pub headline : ((t : Told) → Says run t (Refused IdsSpent) → ⊥) → Headline run story
