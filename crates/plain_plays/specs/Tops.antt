-- The stamp of a truncate: the next one above the greatest in its container.
use Rattle.std.specs.Prelude.{◌≡◌, ◌⊎◌, ℕ, List, Option}
use Rattle.plfs_types.specs.Stamps.{next_stamp}
use Rattle.edge_io.specs.Clock.{Ticks}
use Rattle.container_layout.specs.declared.items.Item.TheVariants.{Meta}
use Rattle.mount_model.specs.declared.call.Call.TheVariants.{Find}
use Rattle.mount_model.specs.declared.reply.Reply.TheVariants.{Room}
use Rattle.mount_model.specs.History.{Event}
use Rattle.mount_model.specs.Paths.{Name}
use Rattle.mount_sound.specs.Owed.{InRoom, IsTop}
use Rattle.reader_laws.specs.Moments.{HadItem, HadTrunc, Moment}
use Rattle.plain_plays.specs.Calls.{AtSome, HasCalled}

-- a truncate of the room has this stamp, or a writer that left tells of it as its last, or it is 0
abbrev pub IsReached : ℕ → ℕ → Moment → Type 0
IsReached room top m =
    (top ≡ 0)
    ⊎ ((size : ℕ) × HadTrunc m room top size)
    ⊎ ((last : ℕ) × (bytes : ℕ) × (host : ℕ) × (writer : ℕ) × HadItem m room (Meta last bytes top host writer))

-- the greatest stamp of the room's truncates and of its entries that have landed: none is above it, and it is reached
pub record IsGreatestIn (room top : ℕ) (m : Moment) : Type 0 where
  pub above : InRoom m.state room (λ r. IsTop r top)
  pub reached : IsReached room top m

-- The truncate was made in the container that was found under this name. At that moment this was the greatest stamp there, and the clock gave this time.
pub record TruncatesAbove (start : Moment) (caller : ℕ) (name : Name) (events : List Event) (stamp : ℕ) : Type 0 where
  pub room : ℕ
  pub found : HasCalled caller (Find name) (Room room) events
  pub top : ℕ
  pub time : ℕ
  pub times : Option (List ℕ)
  pub made : AtSome start events (λ m. Ticks m.state.times times time × IsGreatestIn room top m)
  pub is : stamp ≡ next_stamp time top top
