-- A history in which a reader opens while a writer's flush is torn.
use Rattle.std.specs.Prelude.{◌≡◌, ℕ, List, [], ◌∷◌, ◌++◌, length, map, Some, None}
use Rattle.std.specs.List.{Any}
use Rattle.store_api.specs.declared.tree.Tree.{Tree}
use Rattle.store_api.specs.Acts.{Stored}
use Rattle.mount_model.specs.declared.call.Call.TheVariants.{Flush}
use Rattle.mount_model.specs.declared.reply.Reply.TheVariants.{Fault}
use Rattle.mount_model.specs.Mounting.{IsMounted}
use Rattle.mount_model.specs.History.{Event}
use Rattle.mount_sound.specs.Owed.{IsLawful}
use Rattle.mount_sound.specs.Dropping.{bytes_of}
use Rattle.reader_laws.specs.Moments.{Moment, IsSoundAt, moment_after, index_then, landed}
use Rattle.reader_laws.specs.Seen.{asked_in, calls_of}
use Rattle.reader_laws.specs.Gathering.{Gathered}
use Rattle.reader_laws.specs.View.{view}
use Rattle.reader_laws.specs.GatheringOpening.{IsOpening, ReadsSo}

-- the tree of an empty store
abbrev pub no_rooms : Tree
no_rooms = record { rooms = [] }

-- so many entries of each writer of the cut have landed
abbrev pub landed_of : Moment → List Gathered → List ℕ
landed_of moment cut = map (λ (g : Gathered). landed moment g.dropping) cut

-- so long the index dropping of each is
abbrev pub lengths_of : Moment → List Gathered → List ℕ
lengths_of moment cut = map (λ (g : Gathered). length (bytes_of (index_then moment g.dropping))) cut

-- The premises of a reader's laws, met by caller 3, which opens room 1. The entry of the first writer is in its cut and
-- is read later, though the second writer, whose flush was torn, has by then tried again.
pub record IsBesideTornFlush (start : Moment) (gathering : List Event) (listing : Event) (later : List Event) (cut : List Gathered) : Type 0 where
  -- the history begins with a mount over an empty store
  pub opened : Stored
  pub empty : opened.tree ≡ Some no_rooms
  pub mounted : IsMounted 0 None opened start.state
  pub none_issued : (number writer : ℕ) → start.issued number writer ≡ []
  pub sound : IsSoundAt start
  pub legal : IsLawful start.state (gathering ++ listing ∷ later)
  pub torn : Any (λ (e : Event). (writer : ℕ) × (e.ask.call ≡ Flush writer) × (e.reply ≡ Fault)) gathering
  -- twenty bytes of it are there, and no entry
  pub tail : lengths_of (moment_after start gathering) cut ≡ 40 ∷ 20 ∷ []
  pub opens : IsOpening 1 cut [] (calls_of 3 gathering) (asked_in listing)
  pub counts : map (λ (g : Gathered). g.count) cut ≡ 1 ∷ 0 ∷ []
  pub sees : view (moment_after start gathering) cut [] ≡ 65 ∷ 66 ∷ []
  pub reads : ReadsSo (moment_after start gathering) cut [] 0 2 (calls_of 3 later) (65 ∷ 66 ∷ [])
  pub lands : landed_of (moment_after start (gathering ++ listing ∷ later)) cut ≡ 1 ∷ 1 ∷ []
