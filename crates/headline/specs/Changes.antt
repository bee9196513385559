-- What the lines of writers say, and those that change a container.
use Rattle.std.specs.Prelude.{◌≡◌, ◌⊎◌, ⊤, ℕ, ◌+◌, ◌≤◌, ◌<◌, ◌^◌, max, min, Bool, true, false, List, [], ◌∷◌, length, map, take, Option, Some, None, slice_get}
use Rattle.std.specs.List.{All}
use Rattle.plfs_types.specs.Counts.{HasRisen}
use Rattle.plfs_types.specs.declared.entries.WriterCount.{WriterCount}
use Rattle.plfs_types.specs.declared.limits.TheConstants.{MAX_SIZE, MAX_STAMP}
use Rattle.plain_file.specs.declared.changes.Change.{Change}
use Rattle.container_layout.specs.Items.{IsItem}
use Rattle.container_layout.specs.declared.items.Item.TheVariants.{Index, Log, Meta, OpenHost, Trunc as TruncItem}
use Rattle.script_lang.specs.declared.line.Outcome.{Outcome}
use Rattle.script_lang.specs.declared.line.Outcome.TheVariants.{Closed, Fault, Opened, Refused, Stopped, Wrote}
use Rattle.script_lang.specs.declared.line.Why.TheVariants.{AlreadyOpen}
use Rattle.script_lang.specs.declared.script.Data.{Data}
use Rattle.script_lang.specs.declared.script.Statement.{Statement}
use Rattle.script_lang.specs.declared.script.Statement.TheVariants.{Close, Open, Rename, Write, Trunc as Truncates}
use Rattle.outcomes.specs.Data.{bytes_of}
use Rattle.headline.specs.Run.{IsLine, Run, Told, before, own, so_far, surely_before}
use Rattle.plfs_types.specs.Places.{IsAmong}
use Rattle.headline.specs.Trees.{Has, landed_writes}
use Rattle.headline.specs.Writers.{Writer, account, host_of}
use Rattle.store_api.specs.declared.tree.Room.{Room}
use Rattle.store_api.specs.Room.{has_folder}
use Rattle.headline.specs.Names.{BrokeOff, Named, Story}
use Rattle.container_layout.specs.Paths.{openhosts}
use Rattle.headline.specs.Views.{IdsRise, IsWriter, stamp_of}

-- ---- a writer

-- which writer an actor has after these lines of its own: none, one, or one that may be closed, since a close of it came to no good end
pub data Writing : Type 0 where
  none : Writing
  unsure : ℕ → Writing
  writer : ℕ → Writing

abbrev pub in_doubt : Writing → Writing
in_doubt none = none
in_doubt (unsure id) = unsure id
in_doubt (writer id) = unsure id

-- the one that it has, or may have
abbrev pub id_of : Writing → Option ℕ
id_of none = None
id_of (unsure id) = Some id
id_of (writer id) = Some id

abbrev pub after_close : Writing → Outcome → Writing
after_close w (Closed count) = none
after_close w other = in_doubt w

abbrev pub after_open : Writing → Outcome → Writing
after_open w (Opened id) = writer id
after_open w (Refused AlreadyOpen) = w
after_open w other = none

abbrev pub writing_next : Writing → Statement → Outcome → Writing
writing_next w (Open name) outcome = after_open w outcome
writing_next w Close outcome = after_close w outcome
writing_next w statement outcome = w

abbrev pub writing_after : Writing → List Told → Writing
writing_after w [] = w
writing_after w (t ∷ lines) = writing_after (writing_next w t.statement t.outcome) lines

abbrev pub writing_at : Run → Told → Writing
writing_at run t = writing_after none (own t.actor (before run t))

-- the writer that its statement is of
abbrev pub writer_at : Run → Told → Option ℕ
writer_at run t = id_of (writing_at run t)

-- A writer is opened in the container of the name, which has its index and its log from then on; no writer had its number before.
pub record Opens (run : Run) (story : Story) (t : Told) (id : ℕ) : Type 0 where
  pub finds : Named run story t
  pub index : Has run.after (story.of t) (Index (host_of (slice_get run.script.actors t.actor)) id)
  pub log : Has run.after (story.of t) (Log (host_of (slice_get run.script.actors t.actor)) id)
  pub alone : (s : Told) → IsLine run s → s.outcome ≡ Opened id → s ≡ t
  pub new : (n host : ℕ) → IsItem (Index host id) → Has run.before n (Index host id) → ⊥

-- whether the line opened this writer in the container, or may have done it before it broke
pub record OpensIn (run : Run) (story : Story) (o : Told) (n host id : ℕ) : Type 0 where
  pub is_line : IsLine run o
  pub of : story.of o ≡ n
  pub by : host_of (slice_get run.script.actors o.actor) ≡ host
  pub asked : (name : List ℕ) × (o.statement ≡ Open name)
  pub made : (o.outcome ≡ Opened id) ⊎ BrokeOff o.outcome

-- a time that the clock tells: one of these, or 0 where none is left
pub data IsTime (times : Option (List ℕ)) (time : ℕ) : Type 0 where
  untold : times ≡ None → IsTime times time
  one_of : (list : List ℕ) → times ≡ Some list → IsAmong time list ⊎ ((list ≡ []) × (time ≡ 0)) → IsTime times time

-- the container had a truncate of this stamp, or the stamp is 0
abbrev pub IsTruncStamp : Run → ℕ → ℕ → Type 0
IsTruncStamp run n stamp = (stamp ≡ 0) ⊎ ((size : ℕ) × Has run.after n (TruncItem stamp size))

-- or a closed writer of which it is the last
abbrev pub IsStampIn : Run → ℕ → ℕ → Type 0
IsStampIn run n stamp = IsTruncStamp run n stamp ⊎ ((last bytes host id : ℕ) × Has run.after n (Meta last bytes stamp host id))

-- A stamp is the clock's time, or the next above what came before it: the last one of the writer, and one of those that stood in the container.
pub record IsStamp (run : Run) (Stood : ℕ → Type 0) (last stamp : ℕ) : Type 0 where
  pub time : ℕ
  pub clock : IsTime run.times time
  pub stood : ℕ
  pub is_there : Stood stood
  pub is : stamp ≡ max (min time (2 ^ 62)) (max (last + 1) (stood + 1))
  pub fits : stamp ≤ MAX_STAMP

abbrev pub last_stamp_of : List Change → ℕ
last_stamp_of [] = 0
last_stamp_of (w ∷ []) = stamp_of w
last_stamp_of (w ∷ v ∷ writes) = last_stamp_of (v ∷ writes)

-- Bytes were written as the script says; they have a stamp, and no bytes have none.
pub record Writes (statement : Statement) (at len : ℕ) (stamp : Option ℕ) : Type 0 where
  pub content : Data
  pub asked : statement ≡ Write at content
  pub len_is : len ≡ length (bytes_of content)
  pub stamped : (len ≡ 0 → stamp ≡ None) × (stamp ≡ None → len ≡ 0)

-- The stamp of a write is the next one of its writer. The write ends within the greatest size.
pub record IsNextStamp (run : Run) (story : Story) (t : Told) (at len id stamp : ℕ) : Type 0 where
  pub within : at + len ≤ MAX_SIZE
  pub is : (o : Told) → IsLine run o → o.outcome ≡ Opened id → IsStamp run (IsTruncStamp run (story.of o)) (last_stamp_of (account run t.actor id (before run t)).writes) stamp

-- ---- truncates

-- A truncate stands from its line on, alone under its stamp. This is above all that had landed before, and below all that is written after it.
pub record Cuts (run : Run) (story : Story) (t : Told) (size stamp : ℕ) : Type 0 where
  pub stands : Has run.after (story.of t) (TruncItem stamp size)
  pub above : (w : Writer) → IsWriter run story (story.of t) (before run t) (so_far run t) w → All (λ v. stamp_of v < stamp) (take w.least w.writes)
  pub alone : (other : ℕ) → IsItem (TruncItem stamp other) → Has run.after (story.of t) (TruncItem stamp other) → other ≡ size
  pub below : (s o : Told) (place len other id : ℕ) → IsLine run s → surely_before run t s ≡ true → s.outcome ≡ Wrote place len (Some other) → writer_at run s ≡ Some id → IsLine run o → o.outcome ≡ Opened id → story.of o ≡ story.of t → stamp < other

-- The container was truncated.
pub record TruncatesFile (run : Run) (story : Story) (t : Told) (stamp : ℕ) : Type 0 where
  pub name : List ℕ
  pub size : ℕ
  pub asked : t.statement ≡ Truncates name size
  pub finds : Named run story t
  pub cuts : Cuts run story t size stamp
  pub is : IsStamp run (IsStampIn run (story.of t)) 0 stamp

-- ---- who holds it

-- it truncates or renames
abbrev pub Holds : Statement → Type 0
Holds (Truncates name size) = ⊤
Holds (Rename name to) = ⊤
Holds other = ⊥

-- It may have been held: the tree before had no folder of who has it open; or another line truncated or renamed it that began by the end of this one, and had
-- not ended before, or broke off; or the store failed as such a line let go.
pub data MayBeHeld (run : Run) (story : Story) (t : Told) : Type 0 where
  left : (room : Room) → slice_get run.before.rooms (story.of t) ≡ Some room → has_folder room openhosts ≡ false → MayBeHeld run story t
  by : (s : Told) → IsLine run s → (s.place ≡ t.place → ⊥) → Holds s.statement → story.of s ≡ story.of t → surely_before run t s ≡ false
      → (surely_before run s t ≡ false) ⊎ BrokeOff s.outcome ⊎ HasRisen run.faults run.faults_after → MayBeHeld run story t

-- ---- recoveries

-- by the end of the line the writer's actor was stopped, or had begun to close it
pub record MayBeDead (run : Run) (t : Told) (actor id : ℕ) : Type 0 where
  pub s : Told
  pub is_line : IsLine run s
  pub own_line : s.actor ≡ actor
  pub begun : surely_before run t s ≡ false
  pub ends : (s.outcome ≡ Stopped) ⊎ ((s.statement ≡ Close) × (writer_at run s ≡ Some id) × ((s.outcome ≡ Fault) ⊎ ((count : ℕ) × (s.outcome ≡ Closed count))))

-- A writer was taken out that nobody had: one of the tree before, one whose actor was stopped or closed it, or one that was opened in vain. So many of its
-- entries had landed, and no more ever will.
pub record Buries (run : Run) (story : Story) (t : Told) (b : WriterCount) : Type 0 where
  pub host : ℕ
  pub gone : Has run.after (story.of t) (OpenHost host b.writer) → ⊥
  pub dead : (o : Told) → IsLine run o → o.outcome ≡ Opened b.writer → (story.of o ≡ story.of t) × MayBeDead run t o.actor b.writer
  pub counted : (w : Writer) → w.id ≡ b.writer → IsWriter run story (story.of t) (before run t) (so_far run t) w → (w.least ≤ b.count) × (b.count ≤ w.most)
  pub landed : b.count ≡ length (landed_writes run.after (story.of t) host b.writer)
  pub known : 1 ≤ b.count → (w : Writer) × (w.id ≡ b.writer) × (w.host ≡ host) × IsWriter run story (story.of t) (before run t) (so_far run t) w

-- A writer is alive: a line opened it that began by then, or one that broke off; and no line before told of its end.
pub record IsAlive (run : Run) (story : Story) (t : Told) (host id : ℕ) : Type 0 where
  pub o : Told
  pub begun : surely_before run t o ≡ false
  pub opens : OpensIn run story o (story.of t) host id
  pub unclosed : (s : Told) (count : ℕ) → IsLine run s → surely_before run s t ≡ true → s.outcome ≡ Closed count → writer_at run s ≡ Some id → ⊥

pub record Recovers (run : Run) (story : Story) (t : Told) (buried : List WriterCount) (alive : List ℕ) (hold : Bool) : Type 0 where
  pub finds : Named run story t
  pub rise : IdsRise (map (λ (b : WriterCount). b.writer) buried) × IdsRise alive
  pub taken_out : All (Buries run story t) buried
  pub left : All (λ id. (host : ℕ) × IsAlive run story t host id) alive
  pub none_left : hold ≡ false → (host id : ℕ) → Has run.before (story.of t) (OpenHost host id) → Has run.after (story.of t) (OpenHost host id) → ⊥
  pub all_named : hold ≡ false → (o : Told) (id : ℕ) → IsLine run o → o.outcome ≡ Opened id → story.of o ≡ story.of t → surely_before run o t ≡ true → (MayBeDead run t o.actor id → ⊥) → IsAmong id alive
  pub held : hold ≡ true → (buried ≡ []) × (alive ≡ []) × MayBeHeld run story t
