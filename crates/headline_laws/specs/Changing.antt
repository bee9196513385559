-- What a line shows of a container that its statement held and changed.
use Rattle.std.specs.Prelude.{◌≡◌, ◌⊎◌, ◌<◌, ℕ, List, ◌∷◌, ◌++◌, Option, Some}
use Rattle.std.specs.List.{All}
use Rattle.plfs_types.specs.Stamps.{next_stamp}
use Rattle.plfs_types.specs.declared.limits.TheConstants.{MAX_STAMP}
use Rattle.plfs_types.specs.declared.names.Path.{Path}
use Rattle.container_layout.specs.declared.items.Item.TheVariants.{Meta, Trunc}
use Rattle.edge_io.specs.Clock.{Ticks}
use Rattle.store_api.specs.declared.tree.Room.{Room}
use Rattle.store_api.specs.declared.tree.Tree.{Tree}
use Rattle.store_laws.specs.There.{IsFree}
use Rattle.mount_model.specs.declared.call.Call.{Call}
use Rattle.mount_model.specs.declared.call.Call.TheVariants.{Find, Hold, Mark, Move}
use Rattle.mount_model.specs.declared.reply.Reply.{Reply}
use Rattle.mount_model.specs.declared.reply.Reply.TheVariants.{Done, Holding, Marked, Room as Found}
use Rattle.mount_model.specs.declared.row.Holder.{Holder}
use Rattle.mount_model.specs.History.{Event}
use Rattle.mount_model.specs.Paths.{Name}
use Rattle.mount_model.specs.Table.{holder_of}
use Rattle.mount_sound.specs.Excluding.{IsAboveAll}
use Rattle.mount_sound.specs.Ledger.{Written}
use Rattle.mount_sound.specs.Owed.{InRoom, IsLawful}
use Rattle.reader_laws.specs.Moments.{HadItem, HadTrunc, Moment, file_then, moment_after, next_moment}
use Rattle.reader_laws.specs.Naming.{IsRoomNamed}
use Rattle.headline_laws.specs.Opening.{Stretch}

-- the caller made this call, and was answered so
pub record IsAnswered (caller : ℕ) (call : Call) (reply : Reply) (event : Event) : Type 0 where
  pub own : event.caller ≡ caller
  pub asked : event.ask.call ≡ call
  pub told : event.reply ≡ reply

-- A container that was found, then held, and then changed by that hold; and what was called before these three calls, between them and after them.
pub record Change : Type 0 where
  pub room : ℕ
  pub holder : ℕ
  pub earlier : List Event
  pub finding : Event
  pub between : List Event
  pub holding : Event
  pub more : List Event
  pub changing : Event
  pub later : List Event

-- the moments at which it was found, before it was changed, and once it was
abbrev pub as_found : Moment → Stretch → Change → Moment
as_found start stretch c = moment_after start (stretch.before ++ c.earlier)

abbrev pub until_changed : Moment → Stretch → Change → Moment
until_changed start stretch c = moment_after start (stretch.before ++ (c.earlier ++ (c.finding ∷ c.between ++ (c.holding ∷ c.more))))

abbrev pub once_changed : Moment → Stretch → Change → Moment
once_changed start stretch c = next_moment (until_changed start stretch c) c.changing

-- the caller holds this room by this number
abbrev pub IsHolderOf : Moment → ℕ → ℕ → ℕ → Type 0
IsHolderOf moment caller number room = (h : Holder) × (holder_of caller number moment.state.table.holders ≡ Some h) × (h.room ≡ room)

-- In this stretch the caller found the container of this name, held it, and while it held it made this call by its hold, which was answered so.
pub record IsChange (start : Moment) (caller : ℕ) (stretch : Stretch) (name : Name) (call : ℕ → Call) (reply : Reply) (c : Change) : Type 0 where
  pub split : stretch.events ≡ c.earlier ++ (c.finding ∷ c.between ++ (c.holding ∷ c.more ++ c.changing ∷ c.later))
  pub finds : IsAnswered caller (Find name) (Found c.room) c.finding
  pub named : IsRoomNamed (as_found start stretch c) name c.room
  pub holds : IsAnswered caller (Hold c.room) (Holding c.holder) c.holding
  pub changes : IsAnswered caller (call c.holder) reply c.changing
  pub held : IsHolderOf (until_changed start stretch c) caller c.holder c.room

-- ---- a truncate

-- whatever a writer of the room issues after this moment has a later stamp
abbrev pub IssuesAbove : Moment → ℕ → ℕ → Type 0
IssuesAbove moment room stamp = (events : List Event) (writer : ℕ) → IsLawful moment.state events
    → (more : List Written) × ((moment_after moment events).issued room writer ≡ moment.issued room writer ++ more) × All (λ (w : Written). stamp < w.entry.stamp) more

-- the stamp of a truncate that stands in the room, or of a writer's metadata, or 0
abbrev pub IsTopIn : Moment → ℕ → ℕ → Type 0
IsTopIn moment room top = (top ≡ 0) ⊎ ((size : ℕ) × HadItem moment room (Trunc top size)) ⊎ ((last bytes host writer : ℕ) × HadItem moment room (Meta last bytes top host writer))

-- the clock was asked at this moment, and the stamp is the next one above such a stamp
pub record IsTimed (moment : Moment) (room stamp : ℕ) : Type 0 where
  pub time : ℕ
  pub times : Option (List ℕ)
  pub ticks : Ticks moment.state.times times time
  pub top : ℕ
  pub stood : IsTopIn moment room top
  pub is : stamp ≡ next_stamp time top top
  pub left : top < MAX_STAMP

-- From the later moment on the truncate of this stamp and size stands in the room. Its stamp is above that of each truncate that stood there, and of each
-- entry that had landed there, so that it hides every byte that was there from its size on; and it hides nothing that is written later.
pub record IsTruncated (before after : Moment) (room size stamp : ℕ) : Type 0 where
  pub above : InRoom before.state room (λ (r : Room). IsAboveAll r stamp)
  pub stands : HadTrunc after room stamp size
  pub below : IssuesAbove after room stamp
  pub timed : IsTimed before room stamp

-- In this stretch the caller truncated the file of this name to this size, with this stamp.
pub record TruncatesFile (start : Moment) (caller : ℕ) (stretch : Stretch) (name : Name) (size stamp : ℕ) : Type 0 where
  pub top : ℕ
  pub change : Change
  pub made : IsChange start caller stretch name (λ holder. Mark holder size top) (Marked stamp) change
  pub truncated : IsTruncated (until_changed start stretch change) (once_changed start stretch change) change.room size stamp

-- ---- another name

-- no room has this name, as the store tells its rooms
abbrev pub IsFreeName : Moment → Name → Type 0
IsFreeName moment name = (tree : Tree) → moment.state.store.tree ≡ Some tree → IsFree tree name

-- No room had the new name, and this one has it then, with all files as they were. Where it had the other name until then, none has that any more.
pub record IsRenamed (before after : Moment) (room : ℕ) (name to : Name) : Type 0 where
  pub free : IsFreeName before to
  pub named : IsRoomNamed after to room
  pub same : (path : Path) → file_then after room path ≡ file_then before room path
  pub gone : IsRoomNamed before name room → IsFreeName after name

-- In this stretch the caller gave the file of this name the other name.
pub record RenamesFile (start : Moment) (caller : ℕ) (stretch : Stretch) (name to : Name) : Type 0 where
  pub change : Change
  pub made : IsChange start caller stretch name (λ holder. Move holder to) Done change
  pub renamed : IsRenamed (until_changed start stretch change) (once_changed start stretch change) change.room name to
