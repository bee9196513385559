-- What readers see of that which was told before.
use Rattle.std.specs.Prelude.{◌≡◌, ◌⊎◌, ◌≤◌, ℕ, true, List, length, map, Some, slice_get}
use Rattle.std.specs.List.{All, Any}
use Rattle.plfs_types.specs.declared.entries.Trunc.{Trunc}
use Rattle.plfs_types.specs.declared.entries.WriterCount.{WriterCount}
use Rattle.container_layout.specs.Items.{IsItem}
use Rattle.container_layout.specs.declared.items.Item.TheVariants.{Index}
use Rattle.script_lang.specs.declared.line.Outcome.{Outcome}
use Rattle.script_lang.specs.declared.line.Outcome.TheVariants as line
use Rattle.script_lang.specs.declared.script.Statement.{Statement}
use Rattle.script_lang.specs.declared.script.Statement.TheVariants.{Flatten, Open, Recover, Refresh, Rename, Ropen, Stat, Trunc as Truncate}
use Rattle.headline.specs.Run.{IsLine, Run, Says, Told, surely_before}
use Rattle.plfs_types.specs.Places.{IsAmong}
use Rattle.headline.specs.Trees.{Has, landed_writes}
use Rattle.headline.specs.Names.{Story, names_in}
use Rattle.headline.specs.Views.{IdsRise, item_of}
use Rattle.headline.specs.Files.{reader_at}
use Rattle.headline.specs.Changes.{writer_at}

-- The line of a reader, `reader SIZE cut .. trunc ..`, of the container that the story says.
pub record SeesWhatWasTold (run : Run) (story : Story) (t : Told) (cut : List WriterCount) (truncs : List Trunc) : Type 0 where
  -- of a writer that a line opened there it sees all writes that a sync or a close told before
  pub synced : (s o : Told) (n id : ℕ) → Says run s (line.Synced n) ⊎ Says run s (line.Closed n) → writer_at run s ≡ Some id → surely_before run s t ≡ true → Says run o (line.Opened id) → story.of o ≡ story.of t → 1 ≤ n
      → Any (λ (c : WriterCount). (c.writer ≡ id) × (n ≤ c.count)) cut
  -- it counts writers of the container, each once
  pub counted : All (λ (c : WriterCount). (1 ≤ c.count) × ((host : ℕ) × Has run.after (story.of t) (Index host c.writer))) cut
  pub writers_rise : IdsRise (map (λ (c : WriterCount). c.writer) cut)
  -- it sees all truncates that lines told before, by rising stamp, and each that it sees stands from then on
  pub truncated : (s : Told) (name : List ℕ) (stamp size : ℕ) → Says run s (line.Truncated stamp) → s.statement ≡ Truncate name size → surely_before run s t ≡ true → story.of s ≡ story.of t → IsAmong (record { stamp = stamp; size = size }) truncs
  pub stamps_rise : IdsRise (map (λ (u : Trunc). u.stamp) truncs)
  pub stay : All (λ (u : Trunc). Has run.after (story.of t) (item_of u)) truncs
  -- a refresh is of the container of the reader's former line
  pub refreshed : (former : Told) → t.statement ≡ Refresh → reader_at run t ≡ Some former → story.of t ≡ story.of former

-- So it is of each line of a reader.
pub record HasReaders (run : Run) (story : Story) : Type 0 where
  pub sees : (t : Told) (size : ℕ) (cut : List WriterCount) (truncs : List Trunc) → Says run t (line.Reader size cut truncs) → SeesWhatWasTold run story t cut truncs

-- no statement gives a container another name
abbrev pub RenamesNone : Run → Type 0
RenamesNone run = (t : Told) (old to : List ℕ) → IsLine run t → t.statement ≡ Rename old to → ⊥

-- the statement found or made the container of this name, and its line says so
abbrev pub SpeaksOf : List ℕ → Statement → Outcome → Type 0
SpeaksOf name (Open asked) (line.Opened id) = asked ≡ name
SpeaksOf name (Ropen asked workers) (line.Reader size cut truncs) = asked ≡ name
SpeaksOf name (Stat asked) (line.Stat size stored shares truncs) = asked ≡ name
SpeaksOf name (Truncate asked many) (line.Truncated stamp) = asked ≡ name
SpeaksOf name (Recover asked) (line.Recovered buried alive hold) = asked ≡ name
SpeaksOf name (Flatten asked) (line.Flattened id many cut) = asked ≡ name
SpeaksOf name statement outcome = ⊥

-- Where no statement renames, a line speaks of the container that has the name of its statement in the tree after.
pub record HasNames (run : Run) (story : Story) : Type 0 where
  pub named : RenamesNone run → (t : Told) (name : List ℕ) → IsLine run t → SpeaksOf name t.statement t.outcome → slice_get (names_in run.after) (story.of t) ≡ Some name

-- What a reader's line has of the tree before: each truncate of its container, and of each writer that had an index just the writes that had landed.
pub record HasOld (run : Run) (story : Story) : Type 0 where
  pub truncs : (t : Told) (size : ℕ) (cut : List WriterCount) (truncs : List Trunc) (u : Trunc) → Says run t (line.Reader size cut truncs) → IsItem (item_of u) → Has run.before (story.of t) (item_of u) → IsAmong u truncs
  pub writers : (t : Told) (size host id : ℕ) (cut : List WriterCount) (truncs : List Trunc) → Says run t (line.Reader size cut truncs) → IsItem (Index host id) → Has run.before (story.of t) (Index host id) → 1 ≤ length (landed_writes run.before (story.of t) host id)
      → Any (λ (c : WriterCount). (c.writer ≡ id) × (c.count ≡ length (landed_writes run.before (story.of t) host id))) cut
