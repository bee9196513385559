-- Why a statement was refused, stopped or not made at all.
use Rattle.std.specs.Prelude.{◌≡◌, ◌≢◌, ◌⊎◌, ⊤, ℕ, ◌+◌, ◌<◌, Bool, true, false, not, is_some, List, [], ◌∷◌, Option, Some, None}
use Rattle.std.specs.List.{Any}
use Rattle.plfs_types.specs.declared.entries.WriterCount.{WriterCount}
use Rattle.plfs_types.specs.declared.limits.TheConstants.{MAX_LOG, MAX_SIZE, MAX_STAMP}
use Rattle.plain_file.specs.File.{stored_bytes}
use Rattle.container_layout.specs.declared.items.Item.TheVariants.{OpenHost}
use Rattle.script_lang.specs.declared.line.Outcome.{Outcome}
use Rattle.script_lang.specs.declared.line.Outcome.TheVariants.{Gone, Opened, Recovered, Refused, Stopped}
use Rattle.script_lang.specs.declared.line.Why.{Why}
use Rattle.script_lang.specs.declared.line.Why.TheVariants.{AlreadyOpen, Busy, Exists, Held, IdsSpent, MountsSpent, NoFile, NotOpen, StampsSpent, TooFar}
use Rattle.script_lang.specs.declared.script.Statement.{Statement}
use Rattle.script_lang.specs.declared.script.Statement.TheVariants.{Close, Map, Open, Rclose, Read, Recover, Refresh, Rename, Ropen, Sync, Trunc, Verify, Write}
use Rattle.outcomes.specs.Data.{length_of}
use Rattle.headline.specs.Run.{IsLine, Run, Told, before, own, surely_before}
use Rattle.plfs_types.specs.Places.{IsAmong}
use Rattle.headline.specs.Trees.{Has}
use Rattle.headline.specs.Writers.{account}
use Rattle.headline.specs.Names.{IsFree, MayStand, Name, Named, Story, name_of}
use Rattle.headline.specs.Files.{reader_at}
use Rattle.headline.specs.Changes.{Holds, IsAlive, IsStampIn, IsTruncStamp, MayBeHeld, Writing, last_stamp_of, none, writer, writer_at, writing_at}

-- ---- of writers

-- A writer of this host had the container open: its entry stood in the tree before, and no recovery of the container took it out that ended before; or it is alive.
pub data IsOpenIn (run : Run) (story : Story) (t : Told) (host id : ℕ) : Type 0 where
  stood : Has run.before (story.of t) (OpenHost host id)
      → ((s : Told) (buried : List WriterCount) (alive : List ℕ) (hold : Bool) → IsLine run s → surely_before run s t ≡ true → story.of s ≡ story.of t → s.outcome ≡ Recovered buried alive hold → Any (λ (b : WriterCount). b.writer ≡ id) buried → ⊥)
      → IsOpenIn run story t host id
  alive : IsAlive run story t host id → IsOpenIn run story t host id

-- a recovery is refused only while another statement holds the container
abbrev pub IsHeldFrom : Run → Story → Told → Statement → Type 0
IsHeldFrom run story t (Recover name) = (s : Told) × IsLine run s × Holds s.statement × (story.of s ≡ story.of t) × (surely_before run t s ≡ false) × (surely_before run s t ≡ false)
IsHeldFrom run story t other = MayBeHeld run story t

-- ---- of limits

abbrev pub EndsTooFar : Statement → Type 0
EndsTooFar (Write at content) = MAX_SIZE < at + length_of content
EndsTooFar (Trunc name size) = MAX_SIZE < size
EndsTooFar other = ⊥

-- its writer's log would be longer than any may be
abbrev pub FillsLog : Run → Told → Statement → Type 0
FillsLog run t (Write at content) = (id : ℕ) × (writer_at run t ≡ Some id) × (MAX_LOG < stored_bytes (account run t.actor id (before run t)).writes + length_of content)
FillsLog run t other = ⊥

-- the last stamp of all is that of the writer's last write, or one that stood in the container
pub data AreStampsSpent (run : Run) (story : Story) (t : Told) : Type 0 where
  of_writer : (id : ℕ) → writer_at run t ≡ Some id → last_stamp_of (account run t.actor id (before run t)).writes ≡ MAX_STAMP → AreStampsSpent run story t
  of_others : (o : Told) (id : ℕ) → writer_at run t ≡ Some id → IsLine run o → o.outcome ≡ Opened id → IsTruncStamp run (story.of o) MAX_STAMP → AreStampsSpent run story t
  of_container : (name : Name) (size : ℕ) → t.statement ≡ Trunc name size → IsStampIn run (story.of t) MAX_STAMP → AreStampsSpent run story t

-- ---- of what the actor has

-- whether the actor may have a writer, or may have none; of one that may be closed, both are so
abbrev pub MayHave : Bool → Writing → Type 0
MayHave true none = ⊥
MayHave false (writer id) = ⊥
MayHave has other = ⊤

-- Whether it may be that the actor has what the statement uses, and not yet what it opens; or that it is not so.
abbrev pub MayBeReady : Bool → Run → Told → Statement → Type 0
MayBeReady ready run t (Open name) = MayHave (not ready) (writing_at run t)
MayBeReady ready run t (Write at content) = MayHave ready (writing_at run t)
MayBeReady ready run t Sync = MayHave ready (writing_at run t)
MayBeReady ready run t Close = MayHave ready (writing_at run t)
MayBeReady ready run t (Ropen name workers) = is_some (reader_at run t) ≡ not ready
MayBeReady ready run t (Read at len) = is_some (reader_at run t) ≡ ready
MayBeReady ready run t (Verify at content) = is_some (reader_at run t) ≡ ready
MayBeReady ready run t Map = is_some (reader_at run t) ≡ ready
MayBeReady ready run t Refresh = is_some (reader_at run t) ≡ ready
MayBeReady ready run t Rclose = is_some (reader_at run t) ≡ ready
MayBeReady ready run t other = ready ≡ true

-- it was neither refused, nor stopped, nor left out
abbrev pub WasMade : Outcome → Type 0
WasMade (Refused why) = ⊥
WasMade Stopped = ⊥
WasMade Gone = ⊥
WasMade other = ⊤

-- ---- the table

-- Why it was refused. A statement that opens a writer or a reader has a name, and one that uses it has none.
abbrev pub HasCause : Run → Story → Told → Why → Type 0
HasCause run story t NoFile = (name : Name) × (names : List Name) × (name_of t.statement ≡ Some name) × MayStand run story t names × IsFree name names
HasCause run story t (Busy host id) = Holds t.statement × Named run story t × IsOpenIn run story t host id
HasCause run story t Held = Named run story t × IsHeldFrom run story t t.statement
HasCause run story t Exists = Named run story t × ((old : Name) × (to : Name) × (names : List Name) × (t.statement ≡ Rename old to) × MayStand run story t names × IsAmong to names)
HasCause run story t TooFar = EndsTooFar t.statement ⊎ FillsLog run t t.statement
HasCause run story t StampsSpent = AreStampsSpent run story t
HasCause run story t NotOpen = (name_of t.statement ≡ None) × MayBeReady false run t t.statement
HasCause run story t AlreadyOpen = (name_of t.statement ≢ None) × MayBeReady false run t t.statement
HasCause run story t IdsSpent = ⊥
HasCause run story t MountsSpent = ⊥

-- ---- stops

-- the line of the statement that its actor made last before this one
abbrev pub last_outcome : List Told → Option Outcome
last_outcome [] = None
last_outcome (t ∷ []) = Some t.outcome
last_outcome (t ∷ s ∷ lines) = last_outcome (s ∷ lines)

abbrev pub WasStopped : Run → Told → Type 0
WasStopped run t = Any (λ (s : Told). s.outcome ≡ Stopped) (own t.actor (before run t))
