-- What the line of a recovery shows of its container.
use Rattle.std.specs.Prelude.{◌≡◌, ◌⊎◌, ◌<◌, ℕ, Bool, true, false, List, [], ◌∷◌, ◌++◌, Some, None}
use Rattle.std.specs.List.{All, AllByRecursion, Any}
use Rattle.plfs_types.specs.declared.entries.WriterCount.{WriterCount}
use Rattle.container_layout.specs.declared.items.Item.TheVariants.{OpenHost}
use Rattle.container_layout.specs.Paths.{IsIn}
use Rattle.store_api.specs.declared.step.Answer.TheVariants.{Names, NoFolder}
use Rattle.store_api.specs.declared.tree.Room.{Room}
use Rattle.store_laws.specs.Files.{file_at}
use Rattle.mount_model.specs.declared.call.Call.TheVariants.{Bury, Find, Inspect, Look, MendHold}
use Rattle.mount_model.specs.declared.call.Look.TheVariants.{List as ListFolder}
use Rattle.mount_model.specs.declared.reply.Refusal.TheVariants.{Alive}
use Rattle.mount_model.specs.declared.reply.Reply.{Reply}
use Rattle.mount_model.specs.declared.reply.Reply.TheVariants.{Done, Looked, Mended, Refused, Room as Found}
use Rattle.mount_model.specs.History.{Event}
use Rattle.mount_model.specs.declared.row.Row.{Row}
use Rattle.mount_model.specs.Paths.{Name, open_path}
use Rattle.container_layout.specs.Paths.{openhosts}
use Rattle.mount_model.specs.State.{State}
use Rattle.mount_model.specs.Table.{is_live, row_of}
use Rattle.mount_sound.specs.Owed.{IsNotLive, StandsInRoom}
use Rattle.plfs_types.specs.Places.{IsAmong}
use Rattle.reader_laws.specs.Moments.{Moment, landed, moment_after}
use Rattle.headline_laws.specs.Changing.{IsAnswered}
use Rattle.reader_laws.specs.Naming.{IsRoomNamed}
use Rattle.headline_laws.specs.Opening.{Stretch}

-- The calls by which a writer was taken out: it was inspected, so many of its entries were counted, and it was buried; and what was called around them.
pub record Burial : Type 0 where
  pub host : ℕ
  pub earlier : List Event
  pub inspecting : Event
  pub between : List Event
  pub more : List Event
  pub burying : Event
  pub later : List Event

-- the moments at which it was inspected, and at which its entries were counted
abbrev pub as_inspected : Moment → Stretch → Burial → Moment
as_inspected start stretch b = moment_after start (stretch.before ++ b.earlier)

abbrev pub as_counted : Moment → Stretch → Burial → Moment
as_counted start stretch b = moment_after start (stretch.before ++ (b.earlier ++ (b.inspecting ∷ b.between)))

-- One of these names is that of its entry. In this stretch the caller found the writer not live, and buried it after that. So many of its entries had landed in
-- between, and then it has the container open no more.
pub record IsBuried (start : Moment) (caller : ℕ) (stretch : Stretch) (room : ℕ) (names : List Name) (told : WriterCount) : Type 0 where
  pub burial : Burial
  pub listed : Any (λ name. IsIn openhosts name (OpenHost burial.host told.writer)) names
  pub split : stretch.events ≡ burial.earlier ++ (burial.inspecting ∷ burial.between ++ (burial.more ++ burial.burying ∷ burial.later))
  pub inspects : IsAnswered caller (Inspect told.writer) Done burial.inspecting
  pub dead : IsNotLive (as_inspected start stretch burial).state told.writer
  pub counted : landed (as_counted start stretch burial) (record { room = room; host = burial.host; writer = told.writer }) ≡ told.count
  pub buries : IsAnswered caller (Bury room burial.host told.writer) Done burial.burying
  pub gone : StandsInRoom burial.burying.after room (λ (now : Room). file_at now (open_path burial.host told.writer) ≡ None)

-- the table has the writer, and it is live
abbrev pub IsLive : State → ℕ → Type 0
IsLive state writer = (row : Row) × (row_of writer state.table.writers ≡ Some row) × (is_live row.stage ≡ true)

-- In this stretch the caller inspected the writer, which was live, and was told so.
pub record IsFoundLive (start : Moment) (caller : ℕ) (stretch : Stretch) (writer : ℕ) : Type 0 where
  pub earlier : List Event
  pub inspecting : Event
  pub later : List Event
  pub split : stretch.events ≡ earlier ++ inspecting ∷ later
  pub inspects : IsAnswered caller (Inspect writer) (Refused Alive) inspecting
  pub live : IsLive (moment_after start (stretch.before ++ earlier)).state writer

-- ---- who had the container open

-- the name is that of the entry of this writer among those that have the container open
abbrev pub IsOpenName : Name → ℕ → Type 0
IsOpenName name writer = (host : ℕ) × IsIn openhosts name (OpenHost host writer)

-- each number is less than those behind it
abbrev pub NumbersRise : List ℕ → Type 0
NumbersRise [] = Unit {0}
NumbersRise (n ∷ numbers) = AllByRecursion (λ later. n < later) numbers × NumbersRise numbers

-- the writers whose entries have these names, each once, by rising number
pub record AreOpenWriters (names : List Name) (writers : List ℕ) : Type 0 where
  pub rise : NumbersRise writers
  pub named : All (λ writer. Any (λ name. IsOpenName name writer) names) writers
  pub all : (writer : ℕ) → Any (λ name. IsOpenName name writer) names → IsAmong writer writers

-- each of these writers is told once, in their order, as buried or as alive, and no other is
abbrev pub AreTold : List ℕ → List WriterCount → List ℕ → Type 0
AreTold [] buried alive = (buried ≡ []) × (alive ≡ [])
AreTold (writer ∷ writers) buried alive =
    ((told : WriterCount) × (others : List WriterCount) × (told.writer ≡ writer) × (buried ≡ told ∷ others) × AreTold writers others alive)
    ⊎ ((others : List ℕ) × (alive ≡ writer ∷ others) × AreTold writers buried others)

-- Names were listed. Each writer whose entry has one of them was either not live, and was buried, or live; it is told as that, and no other writer is.
pub record RecoversWriters (start : Moment) (caller : ℕ) (stretch : Stretch) (room : ℕ) (reply : Reply) (buried : List WriterCount) (alive : List ℕ) : Type 0 where
  pub names : List Name
  pub listed : reply ≡ Looked (Names names)
  pub writers : List ℕ
  pub were_open : AreOpenWriters names writers
  pub each : AreTold writers buried alive
  pub taken_out : All (λ (told : WriterCount). IsBuried start caller stretch room names told) buried
  pub found_live : All (λ writer. IsFoundLive start caller stretch writer) alive

-- There was no folder to be listed, so that nobody could enter. Nobody is told, and the caller was told whether it made the folder again.
pub record RecoversHold (caller : ℕ) (stretch : Stretch) (room : ℕ) (reply : Reply) (buried : List WriterCount) (alive : List ℕ) (hold : Bool) : Type 0 where
  pub listed : reply ≡ Looked NoFolder
  pub none_buried : buried ≡ []
  pub none_alive : alive ≡ []
  pub mended : Any (λ (event : Event). IsAnswered caller (MendHold room) (Mended hold) event) stretch.events

-- In this stretch the caller found the container of this name, and listed who had it open. Behind that it buried just those of them that it tells as buried,
-- and found just the others live; or it found the container held, and ended that.
pub record RecoversFile (start : Moment) (caller : ℕ) (stretch : Stretch) (name : Name) (buried : List WriterCount) (alive : List ℕ) (hold : Bool) : Type 0 where
  pub room : ℕ
  pub earlier : List Event
  pub finding : Event
  pub more : List Event
  pub listing : Event
  pub later : List Event
  pub split : stretch.events ≡ earlier ++ (finding ∷ more ++ listing ∷ later)
  pub finds : IsAnswered caller (Find name) (Found room) finding
  pub named : IsRoomNamed (moment_after start (stretch.before ++ earlier)) name room
  pub lists : listing.caller ≡ caller
  pub looks : listing.ask.call ≡ Look room (ListFolder openhosts)
  pub tells : ((hold ≡ false) × RecoversWriters start caller (record { before = stretch.before ++ (earlier ++ (finding ∷ more ++ listing ∷ [])); events = later }) room listing.reply buried alive) ⊎ RecoversHold caller stretch room listing.reply buried alive hold
