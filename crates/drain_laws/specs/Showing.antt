-- What readers of a target see of its source.
use Rattle.std.specs.Prelude.{◌≡◌, ◌≤◌, ℕ, List, Option, Some}
use Rattle.std.specs.List.{Any}
use Rattle.plfs_types.specs.declared.entries.Trunc.{Trunc}
use Rattle.store_api.specs.declared.tree.Room.{Room}
use Rattle.store_api.specs.declared.tree.Tree.{Tree}
use Rattle.store_api.specs.Acts.{Stored}
use Rattle.mount_model.specs.History.{Event}
use Rattle.mount_model.specs.Mounting.{IsMounted}
use Rattle.mount_model.specs.Paths.{Name}
use Rattle.mount_model.specs.State.{State}
use Rattle.mount_sound.specs.Owed.{IsLawful}
use Rattle.reader_laws.specs.Gathering.{Gathered, IsAdmissible}
use Rattle.reader_laws.specs.GatheringListing.{AreTruncsAt}
use Rattle.reader_laws.specs.Moments.{Dropping, Moment, Stood, landed, moment_after}
use Rattle.reader_laws.specs.GatheringOpening.{HasView}
use Rattle.reader_laws.specs.View.{view}
use Rattle.drain_sound.specs.Fronts.{IsTarget, dropping_in}
use Rattle.drain_sound.specs.Steps.{IsNamedRoom}
use Rattle.drain_sound.specs.Views.{StaysQuiet, cut_there, mounted_there}

-- What was seen is a view of the source between these two of its moments: a cut that is admissible then and lacks no writer with
-- an entry, the truncates of the later moment, and the plain file of both.
pub record IsViewThere (first last : Moment) (number : ℕ) (end : Moment) (cut : List Gathered) (truncs : List Trunc) : Type 0 where
  pub admissible : IsAdmissible first last (cut_there number cut)
  pub complete : (d : Dropping) → d.room ≡ number → Stood first d → 1 ≤ landed first d → Any (λ (g : Gathered). g.dropping ≡ d) (cut_there number cut)
  pub truncates : AreTruncsAt last number truncs
  pub same : view end cut truncs ≡ view last (cut_there number cut) truncs

-- no writer has come to the room between these moments of a mount
abbrev pub NoWriterCame : Moment → Moment → ℕ → Type 0
NoWriterCame from end n = (host writer : ℕ) → Stood end (dropping_in n host writer) → Stood from (dropping_in n host writer)

-- Who opens a reader on a mount over this tree sees such a view, while no writer comes to the container, nor a truncate.
pub record ShowsSource (first last : Moment) (number : ℕ) (name : Name) (tree : Tree) : Type 0 where
  pub target : IsTarget last number name tree
  pub seen : (n : ℕ) (room : Room) (serial : ℕ) (times : Option (List ℕ)) (opened : Stored) (start : State) (before gathering : List Event) (cut : List Gathered) (truncs : List Trunc)
      → IsNamedRoom tree n name room → IsMounted serial times opened start → opened.tree ≡ Some tree
      → IsLawful start before → IsLawful (moment_after (mounted_there target.sound start) before).state gathering
      → StaysQuiet (mounted_there target.sound start) (moment_after (moment_after (mounted_there target.sound start) before) gathering) n
      → NoWriterCame (mounted_there target.sound start) (moment_after (moment_after (mounted_there target.sound start) before) gathering) n
      → HasView (moment_after (mounted_there target.sound start) before) (moment_after (moment_after (mounted_there target.sound start) before) gathering) n cut truncs
      → IsViewThere first last number (moment_after (moment_after (mounted_there target.sound start) before) gathering) cut truncs
