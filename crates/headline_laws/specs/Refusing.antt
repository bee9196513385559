-- What a line that tells of a refusal shows of the container that its statement was to hold, or to name.
use Rattle.std.specs.Prelude.{◌≡◌, ◌≤◌, ℕ, List, ◌∷◌, ◌++◌, Some}
use Rattle.plfs_types.specs.declared.limits.TheConstants.{MAX_STAMP}
use Rattle.container_layout.specs.declared.items.Item.TheVariants.{OpenHost}
use Rattle.store_api.specs.declared.tree.Tree.{Tree}
use Rattle.store_laws.specs.There.{LacksFolder, ListsFolder}
use Rattle.mount_model.specs.declared.call.Call.TheVariants.{Find, Hold, Mark, Move}
use Rattle.mount_model.specs.declared.reply.Refusal.{Refusal}
use Rattle.mount_model.specs.declared.reply.Refusal.TheVariants.{Busy, Exists, Held, NoRoom, StampsSpent}
use Rattle.mount_model.specs.declared.reply.Reply.TheVariants.{Refused, Room as Found}
use Rattle.mount_model.specs.History.{Event}
use Rattle.mount_model.specs.Paths.{Name, open_path}
use Rattle.container_layout.specs.Paths.{openhosts}
use Rattle.reader_laws.specs.Moments.{HadItem, Moment, moment_after}
use Rattle.headline_laws.specs.Changing.{Change, IsAnswered, IsChange, IsFreeName, IsTopIn, until_changed}
use Rattle.reader_laws.specs.Naming.{IsRoomNamed}
use Rattle.headline_laws.specs.Opening.{Stretch}

-- ---- there is none

-- In this stretch the caller called to find a container of this name, and none had it.
pub record FindsNone (start : Moment) (caller : ℕ) (stretch : Stretch) (name : Name) : Type 0 where
  pub earlier : List Event
  pub finding : Event
  pub later : List Event
  pub split : stretch.events ≡ earlier ++ finding ∷ later
  pub finds : IsAnswered caller (Find name) (Refused NoRoom) finding
  pub free : IsFreeName (moment_after start (stretch.before ++ earlier)) name

-- ---- it is not held

-- A container that was found, and then not held; and what was called before these two calls, between them and after them.
pub record Attempt : Type 0 where
  pub room : ℕ
  pub earlier : List Event
  pub finding : Event
  pub between : List Event
  pub holding : Event
  pub later : List Event

-- the moments at which it was found, and at which it was to be held
abbrev pub as_sought : Moment → Stretch → Attempt → Moment
as_sought start stretch a = moment_after start (stretch.before ++ a.earlier)

abbrev pub as_tried : Moment → Stretch → Attempt → Moment
as_tried start stretch a = moment_after start (stretch.before ++ (a.earlier ++ (a.finding ∷ a.between)))

-- In this stretch the caller found the container of this name, and then called to hold it, which was refused so.
pub record IsAttempt (start : Moment) (caller : ℕ) (stretch : Stretch) (name : Name) (why : Refusal) (a : Attempt) : Type 0 where
  pub split : stretch.events ≡ a.earlier ++ (a.finding ∷ a.between ++ a.holding ∷ a.later)
  pub finds : IsAnswered caller (Find name) (Found a.room) a.finding
  pub named : IsRoomNamed (as_sought start stretch a) name a.room
  pub refuses : IsAnswered caller (Hold a.room) (Refused why) a.holding

-- The writer's entry stood among those that had the room open, and its name was the least of theirs in byte order.
pub record HadOpenFirst (moment : Moment) (room host writer : ℕ) : Type 0 where
  pub stands : HadItem moment room (OpenHost host writer)
  pub tree : Tree
  pub told : moment.state.store.tree ≡ Some tree
  pub others : List Name
  pub least : ListsFolder tree room openhosts ((open_path host writer).file ∷ others)

-- In this stretch the caller found the container of this name, and called to hold it while this writer had it open.
pub record FindsOpen (start : Moment) (caller : ℕ) (stretch : Stretch) (name : Name) (host writer : ℕ) : Type 0 where
  pub attempt : Attempt
  pub made : IsAttempt start caller stretch name (Busy host writer) attempt
  pub entry : HadOpenFirst (as_tried start stretch attempt) attempt.room host writer

-- the room had no folder of who has it open, so that no writer could enter it
abbrev pub WasShut : Moment → ℕ → Type 0
WasShut moment room = (tree : Tree) → moment.state.store.tree ≡ Some tree → LacksFolder tree room openhosts

-- In this stretch the caller found the container of this name, and called to hold it while it was held already, or left so.
pub record FindsHeld (start : Moment) (caller : ℕ) (stretch : Stretch) (name : Name) : Type 0 where
  pub attempt : Attempt
  pub made : IsAttempt start caller stretch name Held attempt
  pub shut : WasShut (as_tried start stretch attempt) attempt.room

-- ---- its new name is taken

-- In this stretch the caller found the container of this name and held it, and was to give it the other name while a container had that.
pub record FindsTaken (start : Moment) (caller : ℕ) (stretch : Stretch) (name to : Name) : Type 0 where
  pub change : Change
  pub made : IsChange start caller stretch name (λ holder. Move holder to) (Refused Exists) change
  pub other : ℕ
  pub taken : IsRoomNamed (until_changed start stretch change) to other

-- ---- no stamp is left

-- In this stretch the caller found the container of this name and held it, and was to truncate it while the last stamp of all stood there.
pub record FindsSpent (start : Moment) (caller : ℕ) (stretch : Stretch) (name : Name) (size : ℕ) : Type 0 where
  pub top : ℕ
  pub change : Change
  pub made : IsChange start caller stretch name (λ holder. Mark holder size top) (Refused StampsSpent) change
  pub stood : IsTopIn (until_changed start stretch change) change.room top
  pub spent : MAX_STAMP ≤ top
