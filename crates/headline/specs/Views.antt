-- The plain file that a line shows: the first writes of each writer of a container, as many as a cut says, and truncates.
use Rattle.std.specs.Prelude.{◌≡◌, ◌⊎◌, ℕ, ◌≤◌, ◌<◌, ◌==◌, true, false, if◌then◌else◌, List, [], ◌∷◌, ◌++◌, map, take}
use Rattle.std.specs.List.{All, AllByRecursion}
use Rattle.plfs_types.specs.declared.entries.ShareBytes.{ShareBytes}
use Rattle.plfs_types.specs.declared.entries.Trunc.{Trunc}
use Rattle.plfs_types.specs.declared.entries.WriterCount.{WriterCount}
use Rattle.plain_file.specs.declared.changes.Change.{Change}
use Rattle.plain_file.specs.declared.changes.Change.TheVariants.{Truncate, Write as Written}
use Rattle.plain_file.specs.File.{stored_bytes}
use Rattle.container_layout.specs.Items.{IsItem}
use Rattle.container_layout.specs.declared.items.Item.{Item}
use Rattle.container_layout.specs.declared.items.Item.TheVariants.{Index, Trunc as TruncItem}
use Rattle.script_lang.specs.declared.line.Outcome.TheVariants.{Opened, Truncated}
use Rattle.script_lang.specs.declared.script.Statement.TheVariants.{Trunc as TruncStatement}
use Rattle.headline.specs.Run.{IsLine, Run, Told, before, so_far, surely_before, told}
use Rattle.plfs_types.specs.Places.{IsAmong}
use Rattle.headline.specs.Trees.{Has}
use Rattle.headline.specs.Writers.{Writer, new_writer, old_writer}
use Rattle.headline.specs.Names.{BrokeOff, Story}

-- The writer is one of container n: the tree had its index before, or a line opened it. What has landed of it is what some lines make sure, and no more
-- than others allow.
pub data IsWriter (run : Run) (story : Story) (n : ℕ) (sure maybe : List Told) (w : Writer) : Type 0 where
  stood : IsItem (Index w.host w.id) → Has run.before n (Index w.host w.id) → w ≡ old_writer run.before n w.host w.id → IsWriter run story n sure maybe w
  opened : (o : Told) → IsLine run o → o.outcome ≡ Opened w.id → story.of o ≡ n → w ≡ new_writer run o.actor w.id (told run) sure maybe → IsWriter run story n sure maybe w

-- how many of a writer's writes are in a cut
pub record Seen : Type 0 where
  pub writer : Writer
  pub count : ℕ

abbrev pub count_of : ℕ → List Seen → ℕ
count_of id [] = 0
count_of id (s ∷ seen) = if s.writer.id == id then s.count else count_of id seen

-- as a line tells of it
abbrev pub counted : Seen → WriterCount
counted s = record { writer = s.writer.id; count = s.count }

abbrev pub shared : Seen → ShareBytes
shared s = record { writer = s.writer.id; bytes = stored_bytes (take s.count s.writer.writes) }

abbrev pub IdsRise : List ℕ → Type 0
IdsRise [] = Unit {0}
IdsRise (id ∷ ids) = AllByRecursion (λ later. id < later) ids × IdsRise ids

-- A cut that a line may see: of each writer of its container at least what had surely landed before it, and at most what may have landed by its end.
pub record IsCut (run : Run) (story : Story) (t : Told) (seen : List Seen) : Type 0 where
  pub known : All (λ (s : Seen). (1 ≤ s.count) × IsWriter run story (story.of t) (before run t) (so_far run t) s.writer) seen
  pub rise : IdsRise (map (λ (s : Seen). s.writer.id) seen)
  pub between : (w : Writer) → IsWriter run story (story.of t) (before run t) (so_far run t) w → (w.least ≤ count_of w.id seen) × (count_of w.id seen ≤ w.most)

-- its writes, and with truncates the changes that make its file
abbrev pub writes_of : List Seen → List Change
writes_of [] = []
writes_of (s ∷ seen) = take s.count s.writer.writes ++ writes_of seen

abbrev pub changes_of : List Seen → List Trunc → List Change
changes_of seen truncs = writes_of seen ++ map (λ t. Truncate t) truncs

abbrev pub item_of : Trunc → Item
item_of t = TruncItem t.stamp t.size

-- whether the line truncated the container so, or may have done it before it broke
pub record Truncates (run : Run) (story : Story) (s : Told) (n : ℕ) (t : Trunc) : Type 0 where
  pub is_line : IsLine run s
  pub of : story.of s ≡ n
  pub file : List ℕ
  pub asked : s.statement ≡ TruncStatement file t.size
  pub made : (s.outcome ≡ Truncated t.stamp) ⊎ BrokeOff s.outcome

abbrev pub stamp_of : Change → ℕ
stamp_of (Written entry bytes) = entry.stamp
stamp_of (Truncate t) = t.stamp

-- The truncates that a line may see beside such a cut, the oldest first: those of the tree before, those told before the line and no others but those of
-- lines that began by its end. All stand in the tree after, and each further one that stands there is newer than all that the line sees.
pub record AreTruncs (run : Run) (story : Story) (t : Told) (seen : List Seen) (truncs : List Trunc) : Type 0 where
  pub rise : IdsRise (map (λ (u : Trunc). u.stamp) truncs)
  pub stood : (u : Trunc) → Has run.before (story.of t) (item_of u) → IsAmong u truncs
  pub made : (s : Told) (u : Trunc) → Truncates run story s (story.of t) u → s.outcome ≡ Truncated u.stamp → surely_before run s t ≡ true → IsAmong u truncs
  pub known : All (λ (u : Trunc). Has run.before (story.of t) (item_of u) ⊎ ((s : Told) × Truncates run story s (story.of t) u × (surely_before run t s ≡ false))) truncs
  pub stay : All (λ (u : Trunc). Has run.after (story.of t) (item_of u)) truncs
  pub later : (u : Trunc) → Has run.after (story.of t) (item_of u) → IsAmong u truncs ⊎ (All (λ w. stamp_of w < u.stamp) (writes_of seen) × All (λ (v : Trunc). v.stamp < u.stamp) truncs)
