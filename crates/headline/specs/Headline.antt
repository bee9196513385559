-- What the lines of a run say: the page to read. Each field is a promise. A line is a statement of the script with its outcome. A line is before another if
-- it surely ended before that began.
use Rattle.std.specs.Prelude.{◌≡◌, ◌⊎◌, ◌≤◌, ℕ, Bool, true, List, ◌++◌, length, Option, Some, map}
use Rattle.std.specs.List.{All, Any}
use Rattle.plfs_types.specs.Counts.{HasRisen}
use Rattle.plfs_types.specs.declared.entries.ShareBytes.{ShareBytes}
use Rattle.plfs_types.specs.declared.entries.Trunc.{Trunc}
use Rattle.plfs_types.specs.declared.entries.WriterCount.{WriterCount}
use Rattle.container_layout.specs.declared.items.Item.TheVariants.{Index, OpenHost}
use Rattle.script_lang.specs.declared.line.Outcome.TheVariants as line
use Rattle.script_lang.specs.declared.line.Line.{Line}
use Rattle.script_lang.specs.declared.line.Why.{Why}
use Rattle.script_lang.specs.declared.script.Statement.TheVariants.{Refresh}
use Rattle.headline.specs.Run.{IsLine, Phased, Run, Says, Told, before, own, phased, told}
use Rattle.headline.specs.Trees.{Has}
use Rattle.headline.specs.Writers.{Writer, account}
use Rattle.headline.specs.Names.{AreNamed, Named, Story}
use Rattle.headline.specs.Views.{IsWriter}
use Rattle.headline.specs.Files.{Answers, Flattens, ShowsFile, TellsOfFile, reader_at}
use Rattle.headline.specs.Changes.{IsNextStamp, Opens, OpensIn, Recovers, TruncatesFile, Writes, writer_at}
use Rattle.headline.specs.Causes.{HasCause, MayBeReady, WasMade, WasStopped, last_outcome}
use Rattle.headline.specs.Kinds.{IsOfKind}
use Rattle.headline.specs.Left.{AreTruncsLeft, HasLeft, IsLeft, StaysOpen}
use Rattle.headline.specs.Listing.{ListsNames}

-- What the lines of each actor say by themselves, whatever the others do.
pub record IsOrderly (run : Run) : Type 0 where
  -- one line for each statement, in their order, of a kind that the statement can have: so none is damage
  pub numbered : map (λ (l : Line). l.number) run.lines ≡ map (λ (s : Phased). s.is.line) (phased 0 run.script.phases)
  pub kinds : (t : Told) → IsLine run t → IsOfKind t.statement t.outcome
  -- `wrote AT LEN STAMP`: the script's bytes at the script's place
  pub wrote : (t : Told) (at len : ℕ) (stamp : Option ℕ) → Says run t (line.Wrote at len stamp) → Writes t.statement at len stamp
  -- `synced N`, `closed N`: N is the number of all writes that the lines tell of the writer
  pub synced : (t : Told) (n id : ℕ) → Says run t (line.Synced n) ⊎ Says run t (line.Closed n) → writer_at run t ≡ Some id → n ≡ length (account run t.actor id (before run t)).writes
  -- `reader SIZE ..`: all that it reads and compares, up to its next line, is of one file of that size
  pub answers : (t : Told) (size : ℕ) (cut : List WriterCount) (truncs : List Trunc) → Says run t (line.Reader size cut truncs)
      → (file : List ℕ) × (size ≡ length file) × ((s : Told) → IsLine run s → reader_at run s ≡ Some t → Answers file s.statement s.outcome)
  -- the line of a refresh: no count is below that of the reader's former line, and the truncates are the former ones and such as came
  pub refreshed : (t former : Told) (size was : ℕ) (cut counts : List WriterCount) (truncs stood : List Trunc) → t.statement ≡ Refresh → Says run t (line.Reader size cut truncs) → reader_at run t ≡ Some former
      → former.outcome ≡ line.Reader was counts stood → All (λ (b : WriterCount). Any (λ (c : WriterCount). (c.writer ≡ b.writer) × (b.count ≤ c.count)) cut) counts × ((came : List Trunc) × (truncs ≡ stood ++ came))
  -- of a statement that was made, the actor had what it uses, and had not yet what it opens
  pub made : (t : Told) → IsLine run t → WasMade t.outcome → MayBeReady true run t t.statement
  -- `stopped`: a stop was armed; `gone`: after one, and always then; `fault`: the store failed
  pub stopped : (t : Told) → Says run t line.Stopped → last_outcome (own t.actor (before run t)) ≡ Some line.Armed
  pub gone : (t : Told) → Says run t line.Gone → WasStopped run t
  pub ended : (t : Told) → IsLine run t → WasStopped run t → t.outcome ≡ line.Gone
  pub fault : (t : Told) → Says run t line.Fault → HasRisen run.faults run.faults_after

-- What all lines say, and the tree after. The story says in which order containers got their names, and of which container each line speaks.
pub record Headline (run : Run) (story : Story) : Type 0 where
  pub orderly : IsOrderly run
  -- containers are numbered as in the tree; they get names by `open` and `rename`, in an order that fits the lines and leads to the names after
  pub names : AreNamed run story
  -- `open ID`: a new writer, in the container of that name
  pub opened : (t : Told) (id : ℕ) → Says run t (line.Opened id) → Opens run story t id
  -- `wrote AT LEN STAMP`: the writer's next stamp by the clock
  pub stamped : (t : Told) (at len stamp id : ℕ) → Says run t (line.Wrote at len (Some stamp)) → writer_at run t ≡ Some id → IsNextStamp run story t at len id stamp
  -- `reader SIZE cut .. trunc ..`: one plain file, of the first writes of each writer and of truncates. It has all that was told as synced or closed
  -- before, and all truncates told before. All that this reader reads, compares and maps is of this file, whatever is done meanwhile, until it is refreshed:
  -- then it is as one opened then, of the same container
  pub reader : (t : Told) (size : ℕ) (cut : List WriterCount) (truncs : List Trunc) → Says run t (line.Reader size cut truncs) → ShowsFile run story t size cut truncs
  -- `stat ..`: size and bytes of such a file
  pub stat : (t : Told) (size bytes : ℕ) (by : List ShareBytes) (truncs : List Trunc) → Says run t (line.Stat size bytes by truncs) → TellsOfFile run story t size bytes by truncs
  -- `flattened ID ..`: an index of such a cut. No other line depends on it
  pub flattened : (t : Told) (id many : ℕ) (cut : List WriterCount) → Says run t (line.Flattened id many cut) → Named run story t × Flattens run story t id many cut
  -- `ls ..`: the names that stood at one time
  pub listed : (t : Told) (names : List (List ℕ)) → Says run t (line.Listed names) → ListsNames run story t names
  -- `truncated STAMP`: it cuts all that had landed, and nothing that is written after it
  pub truncated : (t : Told) (stamp : ℕ) → Says run t (line.Truncated stamp) → TruncatesFile run story t stamp
  -- `renamed`: the container that had the one name got the other
  pub renamed : (t : Told) → Says run t line.Renamed → Named run story t
  -- `recovered ..`: writers that nobody had are taken out with what had landed of them, all that the tree before had; those that are alive are named
  pub recovered : (t : Told) (out : List WriterCount) (alive : List ℕ) (hold : Bool) → Says run t (line.Recovered out alive hold) → Recovers run story t out alive hold
  -- `refused WHY`: it was so
  pub refused : (t : Told) (why : Why) → Says run t (line.Refused why) → HasCause run story t why
  -- the tree after: of each writer its first writes, at least all that was told as synced; closed writers have left, those that were not closed have not
  pub left : (n : ℕ) (w : Writer) → IsWriter run story n (told run) (told run) w → IsLeft run n w
  pub closed : (t : Told) (count n : ℕ) (w : Writer) → Says run t (line.Closed count) → writer_at run t ≡ Some w.id → IsWriter run story n (told run) (told run) w → HasLeft run n w
  pub kept : (t : Told) (n : ℕ) (w : Writer) → IsLine run t → StaysOpen run t w.id → IsWriter run story n (told run) (told run) w → Has run.after n (OpenHost w.host w.id)
  -- truncates and indices stand, and no others than those of the lines; so it is of entries of open writers, but these may go
  pub truncs : (n : ℕ) → AreTruncsLeft run story n
  pub indices : (n host id : ℕ) → Has run.after n (Index host id) → Has run.before n (Index host id) ⊎ ((o : Told) × OpensIn run story o n host id)
  pub entries : (n host id : ℕ) → Has run.after n (OpenHost host id) → Has run.before n (OpenHost host id) ⊎ ((o : Told) × OpensIn run story o n host id)
